-- The loop that records option after option.
use Rattle.std.proofs.Common.{◌≡◌, ℕ, ◌+◌, ◌/◌, ◌%◌, ◌^◌, ◌<◌, ◌≤◌, List, length, get_or, set, replicate, sym, refl, ap, ◌∙◌, subst, inl, inr, arith}
use Rattle.std.proofs.lemmas.List.{get_or-set_same, get_or-set_other, get_or-replicate, get_or_past, length-replicate, length-set}
use Rattle.std.proofs.lemmas.Bool.{cases_lt, cases_eq}
use Rattle.grammar.specs.Contents.{Contents, Valid}
use Rattle.values.specs.Members.{In}
use Rattle.propagate.specs.Sets.{placed, sets_of}
use Rattle.propagate.specs.Steps.{Trimmed}
use Rattle.reduce.specs.Boxes.{Whole, BoxOf}
use Rattle.reduce.specs.Steps.{Binds, Records}
use Rattle.reduce.proofs.Bindings.{free_like}

-- the options below m are recorded, and the other places are empty
pub record Recording (bound : ℕ) (sizes values : List ℕ) (m : ℕ) (noted : List ℕ) : Type 0 where
  pub done : (x : ℕ) → x < m → Records (In bound x) ((v : ℕ) → v < get_or sizes x 0 → In (get_or values x 0) v) (get_or values x 0) (get_or noted x 0)
  pub rest : (x : ℕ) → m ≤ x → get_or noted x 0 ≡ 0
  pub long : length noted ≡ 24

zeros : (n x : ℕ) → get_or {A = ℕ} (replicate n 0) x 0 ≡ 0
zeros n x = elim (cases_lt x n) [ inl l ↦ get_or-replicate {A = ℕ} n x 0 0 l | inr g ↦ get_or_past {X = ℕ} (replicate n 0) x 0 (subst (λ m. m ≤ x) (sym (length-replicate {A = ℕ} n 0)) g) ]

module _ (bound : ℕ) (sizes values : List ℕ) where
  pub recording_none : Recording bound sizes values 0 (replicate 24 0)
  recording_none = record { done = λ x l. absurd (omega arith); rest = λ x l. zeros 24 x; long = refl }

  pub recording_more : (m i : ℕ) (noted : List ℕ) (s : ℕ) → m < 24 → i ≡ m
      → Records (In bound m) ((v : ℕ) → v < get_or sizes m 0 → In (get_or values m 0) v) (get_or values m 0) s
      → Recording bound sizes values m noted → Recording bound sizes values (m + 1) (set noted i s)
  recording_more m i noted s low at made old = subst (λ i. Recording bound sizes values (m + 1) (set noted i s)) (sym at) record {
    done = λ x l. elim (cases_lt x m) [
      | inl h ↦ subst (Records (In bound x) ((v : ℕ) → v < get_or sizes x 0 → In (get_or values x 0) v) (get_or values x 0)) (sym (get_or-set_other noted m x s 0 (omega arith))) (old.done x h)
      | inr g ↦
          subst (λ x. Records (In bound x) ((v : ℕ) → v < get_or sizes x 0 → In (get_or values x 0) v) (get_or values x 0) (get_or (set noted m s) x 0)) {x = m} {y = x} (omega arith)
          (subst (Records (In bound m) ((v : ℕ) → v < get_or sizes m 0 → In (get_or values m 0) v) (get_or values m 0)) (sym (get_or-set_same noted m s 0 (omega (arith, old.long)))) made)
    ];
    rest = λ x l. get_or-set_other noted m x s 0 (omega arith) ∙ old.rest x (omega arith);
    long = length-set noted m s ∙ old.long;
  }

module _ (c : Contents) (ok : Valid c) (array values : List ℕ) (trim : Trimmed c array values) (bound : ℕ) (binds : Binds (placed values) c.tables bound) where
  whole_at : (x : ℕ) → x < length c.sizes → Whole c array x → (v : ℕ) → v < get_or c.sizes x 0 → In (get_or values x 0) v
  whole_at x l w v h = subst (λ n. In n v) (sym (trim.values x l)) (w v h)

  at_whole : (x : ℕ) → x < length c.sizes → ((v : ℕ) → v < get_or c.sizes x 0 → In (get_or values x 0) v) → Whole c array x
  at_whole x l w v h = subst (λ n. In n v) (trim.values x l) (w v h)

  pub boxed : (sizes : List ℕ) → sizes ≡ c.sizes → (m : ℕ) → m ≡ length sizes → (noted : List ℕ) → Recording bound sizes values m noted → BoxOf c array noted
  boxed sizes e m f noted all = record {
    left_out = λ x l out. elim out [
      | inl w ↦ (at x l).dropped (whole_at x l w)
      | inr free ↦ (at x l).unbound (λ tied. binds.tied x tied (free_like c.sizes (λ y. sets_of c array y) (placed values) (λ y h. sym (trim.values y h)) x c.tables ok.tables free))
    ];
    recorded = λ x l not-out. elim (cases_eq (bound / 2 ^ x % 2) 1) [
      | inl tied ↦ (at x l).kept tied (λ w. not-out (inl (at_whole x l w))) ∙ trim.values x l
      | inr loose ↦ absurd (not-out (inr (free_like c.sizes (placed values) (λ y. sets_of c array y) trim.values x c.tables ok.tables (binds.free x loose))))
    ];
    lacking = λ x g. all.rest x (omega (arith, ap length e));
  }
    where
      at : (x : ℕ) → x < length c.sizes → Records (In bound x) ((v : ℕ) → v < get_or c.sizes x 0 → In (get_or values x 0) v) (get_or values x 0) (get_or noted x 0)
      at x l = subst (λ s. Records (In bound x) ((v : ℕ) → v < get_or s x 0 → In (get_or values x 0) v) (get_or values x 0) (get_or noted x 0)) e (all.done x (omega (arith, ap length e)))
