-- Trimmed sets have few values, and a trial on them is one on the sets that they come from.
use Rattle.std.proofs.Common.{◌≡◌, ℕ, suc, ◌%◌, ◌^◌, ◌<◌, ◌≤◌, List, [], ◌∷◌, length, get_or, sum, Option, sym, ap, ◌∙◌, subst, inl, inr, mod-lt, arith}
use native.Mathlib.Nat.{mod-mod}
use lib.Count.{ones, ones-le}
use Rattle.std.proofs.lemmas.Nat.{pow_pos}
use Rattle.std.proofs.lemmas.List.Sums.{sum_by-cons}
use Rattle.std.proofs.lemmas.Bool.{cases_lt}
use Rattle.grammar.specs.Contents.{Contents}
use Rattle.boxes.specs.declared.ValueBox.{ValueBox}
use Rattle.values.specs.Members.{In}
use Rattle.propagate.specs.Sets.{Sets, sets_of}
use Rattle.propagate.specs.Propagation.{Largest, LeavesNone}
use Rattle.propagate.specs.Steps.{Trimmed}
use Rattle.store.specs.Meaning.{Meaning}
use Rattle.trail.specs.Trails.{total}
use Rattle.trials.specs.Trials.{Verdict, Narrows, Branches, Trial, spent, emptied, settled, seen, left, right, both}

-- no more values than the sizes together
pub total_most : (sizes b : List ℕ) → ((x : ℕ) → x < length sizes → ones (get_or b x 0) ≤ get_or sizes x 0) → total (length sizes) b ≤ sum sizes
total_most [] b h = omega arith
total_most (k ∷ sizes) [] h = omega arith
total_most (k ∷ sizes) (s ∷ b) h = omega (arith, sum_by-cons (λ n. n) k sizes, h 0 (omega arith), total_most sizes b (λ x l. h (suc x) (omega arith)))

module _ (c : Contents) (whole array : List ℕ) (t : Trimmed c whole array) where
  pub trimmed_total : total (length c.sizes) array ≤ sum c.sizes
  trimmed_total = total_most c.sizes array (λ x l.
      let k = get_or c.sizes x 0 in
      ones-le k (get_or array x 0) (subst (λ n. n < 2 ^ k) (sym (t.values x l)) (mod-lt (get_or whole x 0) (pow_pos k))))

  trimmed_sets : (x : ℕ) → sets_of c array x ≡ sets_of c whole x
  trimmed_sets x =
      let k = 2 ^ get_or c.sizes x 0 in
      elim (cases_lt x (length c.sizes)) [
        | inl l ↦ ap (λ n. n % k) (t.values x l) ∙ mod-mod (get_or whole x 0) k
        | inr l ↦ ap (λ n. n % k) (t.rest x l)
      ]

  trimmed_largest : (end : Sets) → Largest c (sets_of c array) end → Largest c (sets_of c whole) end
  trimmed_largest end p = record {
    inside = λ x v i. subst (λ s. In s v) (trimmed_sets x) (p.inside x v i);
    closed = p.closed;
    largest = λ other h q. p.largest other (λ x v i. subst (λ s. In s v) (sym (trimmed_sets x)) (h x v i)) q;
  }

  trimmed_none : LeavesNone c (sets_of c array) → LeavesNone c (sets_of c whole)
  trimmed_none p = (p.0, p.1, λ other h q. p.2 other (λ x v i. subst (λ s. In s v) (sym (trimmed_sets x)) (h x v i)) q)

  trimmed_narrows : (next : List ℕ) → length array ≡ length whole → Narrows c array next → Narrows c whole next
  trimmed_narrows next e n = record {
    propagated = record {
      largest = trimmed_largest (sets_of c next) n.propagated.largest;
      some = n.propagated.some;
      exact = n.propagated.exact;
      rest = λ x l. n.propagated.rest x l ∙ t.rest x l;
    };
    long = n.long ∙ e;
  }

-- A trial on trimmed sets is one on the sets that they come from.
module _ (c : Contents) (S : Type 0) (m : Meaning S) (budget : Option ℕ) where
  branches_whole : {array next : List ℕ} {s t : S} {b : ValueBox} {o v : ℕ} (whole : List ℕ) → Trimmed c whole array → length array ≡ length whole → Branches c m array s next b o v t → Branches c m whole s next b o v t
  branches_whole {array} {next} whole h e p = record { narrows = trimmed_narrows c whole array h next e p.narrows; picked = p.picked; boxed = p.boxed; fresh = p.fresh; looked = p.looked }

  pub trial_whole : {array : List ℕ} {s t : S} {n k : ℕ} {v : Verdict} (whole : List ℕ) → Trimmed c whole array → length array ≡ length whole → Trial c S m budget array s n v t k → Trial c S m budget whole s n v t k
  trial_whole whole h e (spent u) = spent u
  trial_whole {array} whole h e (emptied u p) = emptied u (trimmed_none c whole array h p)
  trial_whole {array} whole h e (settled u p q) = settled u (trimmed_narrows c whole array h _ e p) q
  trial_whole {array} whole h e (seen u p q b y l) = seen u (trimmed_narrows c whole array h _ e p) q b y l
  trial_whole whole h e (left u p d z) = left u (branches_whole whole h e p) d z
  trial_whole whole h e (right u p d f z) = right u (branches_whole whole h e p) d f z
  trial_whole whole h e (both u p d f t) = both u (branches_whole whole h e p) d f t
