-- What the plain ask finds is a fit, and where it finds none there is none.
use Rattle.std.proofs.Common.{◌≡◌, ℕ, suc, ◌-◌, ◌^◌, ◌<◌, List, [], ◌∷◌, length, get_or, sym, refl, ◌∙◌, subst, ap₂, inl, inr, arith}
use Rattle.std.specs.List.{AllByRecursion}
use Rattle.std.proofs.lemmas.List.{length-set}
use Rattle.grammar.specs.Contents.{Table, Contents, Listed, on_scope, Fit, ValidTable, Valid}
use Rattle.values.specs.Members.{In}
use Rattle.values.proofs.Digits.{in_one, in_one_only, in_mod}
use Rattle.propagate.specs.Sets.{Sets, sets_of}
use Rattle.propagate.specs.Support.{Live, Closed}
use Rattle.propagate.specs.Propagation.{LeavesNone}
use Rattle.propagate.specs.Laws.{Within}
use Rattle.propagate.specs.declared.outcome.Outcome.TheVariants.{Narrowed, Emptied}
use Rattle.propagate.proofs.Fits.{loses_no_fit}
use Rattle.reduce.specs.Laws.{HasFit}
use Rattle.trials.specs.Picks.{Picked, Single}
use Rattle.trials.specs.Trials.{Verdict, refuted, found, stopped, Over, Narrows, cut_to, cut_from}
use Rattle.trials.specs.Laws.{Right, PlainIsRight, PlainFindsIfAny}
use Rattle.trials.proofs.PlainTrees.{Tree, t_emptied, t_settled, t_left, t_right, tree}
use Rattle.trials.proofs.Halves.{left_within, right_within, within_half}

-- ---- propagation and the fits inside

module _ (c : Contents) (ok : Valid c) (array : List ℕ) where
  pub none_emptied : LeavesNone c (sets_of c array) → HasFit c array → ⊥
  none_emptied e (values, fit, inside) =
      let never : Emptied ≡ Narrowed = (loses_no_fit c ok array array Emptied (e, refl) values fit inside).0 in
      let z : ◌≡◌ {A = ℕ} 0 1 = cc in
      omega arith

  module _ (next : List ℕ) (p : Narrows c array next) where
    pub narrowed_within : (values : List ℕ) → Within c next values → Within c array values
    narrowed_within values inside x l = p.propagated.largest.inside x (get_or values x 0) (inside x l)

    pub within_narrowed : (values : List ℕ) → Fit c values → Within c array values → Within c next values
    within_narrowed values fit inside = (loses_no_fit c ok array next Narrowed p.propagated values fit inside).1

-- ---- one value for each option: these are a fit

live_single : (sets : Sets) (values scope row : List ℕ) → ((j : ℕ) → j < length scope → sets (get_or scope j 0) ≡ 2 ^ get_or values (get_or scope j 0) 0) → Live sets scope row → row ≡ on_scope values scope
live_single sets values [] [] one alive = refl
live_single sets values [] (v ∷ row) one alive = absurd alive
live_single sets values (x ∷ scope) [] one alive = absurd alive
live_single sets values (x ∷ scope) (v ∷ row) one alive =
    ap₂ (λ a b. a ∷ b) (in_one_only (get_or values x 0) v (subst (λ s. In s v) (one 0 (omega arith)) alive.0))
    (live_single sets values scope row (λ j l. one (suc j) (omega arith)) alive.1)

listed_single : (sizes : List ℕ) (sets : Sets) (values : List ℕ) → ((x : ℕ) → x < length sizes → sets x ≡ 2 ^ get_or values x 0)
    → (tables : List Table) → AllByRecursion (ValidTable sizes) tables → Closed tables sets → AllByRecursion (λ t. Listed t.rows (on_scope values t.scope)) tables
listed_single sizes sets values one [] ok closed = tt
listed_single sizes sets values one (t ∷ ts) ok closed =
    let x = get_or t.scope 0 0 in
    let known = ok.0.known in
    let s = closed.0 0 (get_or values x 0) ok.0.some (subst (λ n. In n (get_or values x 0)) (sym (one x (known 0 ok.0.some))) (in_one (get_or values x 0))) in
    (subst (Listed t.rows) (live_single sets values t.scope s.0 (λ j l. one (get_or t.scope j 0) (known j l)) s.2) s.1, listed_single sizes sets values one ts ok.1 closed.1)

module _ (c : Contents) (ok : Valid c) (array next values : List ℕ) (p : Narrows c array next) (s : Single c next values) where
  single_at : (x : ℕ) → x < length c.sizes → sets_of c next x ≡ 2 ^ get_or values x 0
  single_at x l = sym (p.propagated.exact x l) ∙ s.only x l

  single_within : Within c next values
  single_within x l = subst (λ n. In n (get_or values x 0)) (sym (single_at x l)) (in_one (get_or values x 0))

  pub settled_right : Fit c values × Within c array values
  settled_right = (
    record {
      each = s.each;
      within = λ x l. (in_mod (get_or next x 0) (get_or c.sizes x 0) (get_or values x 0) (single_within x l)).1;
      listed = listed_single c.sizes (sets_of c next) values single_at c.tables ok.tables p.propagated.largest.closed;
    },
    narrowed_within c ok array next p values single_within,
  )

-- ---- a trial that branches

module _ (c : Contents) (ok : Valid c) (array next : List ℕ) (p : Narrows c array next) (long : length array ≡ 24) (x v : ℕ) (q : Picked c next x v) where
  low : x < length next
  low = omega (arith, q.known, ok.few, p.long)

  pub long_left : length (cut_to next x v) ≡ 24
  long_left = length-set next x (2 ^ v) ∙ p.long ∙ long

  pub long_right : length (cut_from next x v) ≡ 24
  long_right = length-set next x (get_or next x 0 - 2 ^ v) ∙ p.long ∙ long

  pub left_right : (w : Verdict) → Over w → Right c (cut_to next x v) w → Right c array w
  left_right refuted o r = absurd o
  left_right (found values) o r = (r.0, narrowed_within c ok array next p values (left_within c next x low v q.lowest.member values r.1))
  left_right stopped o r = r

  pub right_right : (w : Verdict) → (HasFit c (cut_to next x v) → ⊥) → Right c (cut_from next x v) w → Right c array w
  right_right refuted none r = λ (values, fit, inside). elim (within_half c next x low v q.lowest.member values q.known (within_narrowed c ok array next p values fit inside)) [
    | inl h ↦ none (values, fit, h)
    | inr h ↦ r (values, fit, h)
  ]
  right_right (found values) none r = (r.0, narrowed_within c ok array next p values (right_within c next x low v q.lowest.member values r.1))
  right_right stopped none r = r

pub right_answer : {c : Contents} {array : List ℕ} {v : Verdict} {k : ℕ} → Valid c → length array ≡ 24 → Tree c array v k → Right c array v
right_answer {c} {array} ok long (t_emptied e) = none_emptied c ok array e
right_answer {c} {array} ok long (t_settled {next = next} {values = values} p s) = settled_right c ok array next values p s
right_answer {c} {array} ok long (t_left {next = next} {x = x} {v = v} {w = w} p q t o) =
    left_right c ok array next p long x v q w o (right_answer ok (long_left c ok array next p long x v q) t)
right_answer {c} {array} ok long (t_right {next = next} {x = x} {v = v} {w = w} p q t u) =
    right_right c ok array next p long x v q w (right_answer ok (long_left c ok array next p long x v q) t) (right_answer ok (long_right c ok array next p long x v q) u)

-- ---- the laws

pub plain_is_right : PlainIsRight
plain_is_right c ok array long v n plain = right_answer ok long (tree plain).2

found_if : (c : Contents) (array : List ℕ) (v : Verdict) → Right c array v → HasFit c array → (values : List ℕ) × (v ≡ found values)
found_if c array refuted r fit = absurd (r fit)
found_if c array (found values) r fit = (values, refl)
found_if c array stopped r fit = absurd r

pub plain_finds_if_any : PlainFindsIfAny
plain_finds_if_any c ok array long v n plain =
    let r = plain_is_right c ok array long v n plain in
    (found_if c array v r, λ (values, e). let h = subst (Right c array) e r in (values, h.0, h.1))
