-- The plain ask ends: each half of some sets has a smaller sum.
use Rattle.std.proofs.Common.{◌≡◌, ℕ, zero, suc, ◌+◌, ◌-◌, ◌^◌, ◌<◌, List, length, get_or, None, sum, sym, ap, subst, inl, inr, arith, pow_pos}
use lib.Count.{ones}
use Rattle.std.proofs.lemmas.List.Sums.{sum_by-set}
use Rattle.grammar.specs.Contents.{Contents, Valid}
use Rattle.boxes.specs.declared.ValueBox.{ValueBox}
use Rattle.values.proofs.Digits.{in_ge}
use Rattle.store.specs.Blank.{blank}
use Rattle.store.specs.declared.blank.BlankStore.{BlankStore}
use Rattle.store.proofs.Steps.{blank_looked, blank_told}
use Rattle.trials.specs.Picks.{Picked}
use Rattle.trials.specs.Trials.{Verdict, refuted, found, stopped, Branches, cut_to, cut_from, Trial, emptied, settled, left, right, both}
use Rattle.store.specs.Meaning.{Meaning}
use Rattle.trials.specs.Laws.{Right, PlainAskEnds, AnswersAreRight}
use Rattle.trials.proofs.OneValue.{one_value}
use Rattle.trials.proofs.PlainTrees.{tree}
use Rattle.trials.proofs.RightAnswers.{right_answer, plain_is_right, long_left, long_right}
use Rattle.trials.proofs.Remembering.{memory_loses_no_fit_lem}
use Rattle.trials.proofs.SomePick.{single_or_picked}
use Rattle.trials.proofs.SomePropagation.{narrows_or_empties}
use Rattle.trials.proofs.SomeBox.{some_box}

module _ (c : Contents) (next : List ℕ) (x v : ℕ) (q : Picked c next x v) (low : x < length next) where
  left_less : sum (cut_to next x v) < sum next
  left_less =
      let apart : get_or next x 0 ≡ 2 ^ v → ⊥ = λ e. omega (arith, ap ones e, one_value v, q.two) in
      omega (arith, apart, in_ge (get_or next x 0) v q.lowest.member, sum_by-set (λ n. n) next x (2 ^ v) 0 low)

  right_less : sum (cut_from next x v) < sum next
  right_less = omega (arith, in_ge (get_or next x 0) v q.lowest.member, pow_pos v, sum_by-set (λ n. n) next x (get_or next x 0 - 2 ^ v) 0 low)

module _ (c : Contents) (ok : Valid c) (s : BlankStore) where
  abbrev Ended : List ℕ → ℕ → Type 0
  Ended array n = (v : Verdict) × (k : ℕ) × Trial c BlankStore blank None array s n v s k

  -- a trial that branches, from its halves
  module _ (array next : List ℕ) (b : ValueBox) (x v n : ℕ) (br : Branches c blank array s next b x v s) where
    second : (k : ℕ) → Trial c BlankStore blank None (cut_to next x v) s (n + 1) refuted s k → (w : Verdict) (j : ℕ) → Trial c BlankStore blank None (cut_from next x v) s k w s j → Ended array n
    second k t refuted j u = (refuted, j, both (λ z. z) br t u (blank_told s b))
    second k t (found values) j u = (found values, j, right (λ z. z) br t u tt)
    second k t stopped j u = (stopped, j, right (λ z. z) br t u tt)

    first : (w : Verdict) (k : ℕ) → Trial c BlankStore blank None (cut_to next x v) s (n + 1) w s k → ((k : ℕ) → Ended (cut_from next x v) k) → Ended array n
    first refuted k t rest = let u = rest k in second k t u.0 u.1 u.2
    first (found values) k t rest = (found values, k, left (λ z. z) br t tt)
    first stopped k t rest = (stopped, k, left (λ z. z) br t tt)

  ends : (fuel : ℕ) (array : List ℕ) → length array ≡ 24 → sum array < fuel → (n : ℕ) → Ended array n
  ends zero array long h n = absurd (omega arith)
  ends (suc fuel) array long h n = elim (narrows_or_empties c ok array long) [
    | inl e ↦ (refuted, n + 1, emptied (λ z. z) e)
    | inr (next, p, less) ↦ elim (single_or_picked c next p.propagated.some) [
      | inl (values, single) ↦ (found values, n + 1, settled (λ z. z) p single)
      | inr (x, v, q) ↦
          let boxed = some_box c ok next in
          let low : x < length next = omega (arith, q.known, ok.few, p.long) in
          let one = ends fuel (cut_to next x v) (long_left c ok array next p long x v q) (omega (arith, left_less c next x v q low)) (n + 1) in
          first array next boxed.0 x v n
          (record { narrows = p; picked = q; boxed = boxed.1; fresh = λ z. z; looked = blank_looked s boxed.0 })
          one.0 one.1 one.2
          (ends fuel (cut_from next x v) (long_right c ok array next p long x v q) (omega (arith, right_less c next x v q low)))
    ]
  ]

not_stopped : {c : Contents} {array : List ℕ} {s t : BlankStore} {v : Verdict} {n k : ℕ} → Valid c → length array ≡ 24 → Trial c BlankStore blank None array s n v t k → v ≡ stopped → ⊥
not_stopped {c} {array} ok long p e = subst (Right c array) e (right_answer ok long (tree p).2)

pub plain_ends : PlainAskEnds
plain_ends c ok array long =
    let r = ends c ok (record {}) (suc (sum array)) array long (omega arith) 0 in
    (r.0, r.1, r.2, not_stopped ok long r.2)

-- what agrees with the plain ask is right
pub answers_are_right_lem : (S : Type 0) (m : Meaning S) → AnswersAreRight S m
answers_are_right_lem S m c ok budget array long s t v n only asks ended =
    let (w, k, plain, _) = plain_ends c ok array long in
    subst (Right c array) (sym ((memory_loses_no_fit_lem S m c ok budget array long s t v w n k only asks plain).same ended)) (plain_is_right c ok array long w k plain)
