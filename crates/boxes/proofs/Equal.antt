-- Boxes are equal where their sets are.
use Rattle.std.proofs.Common.{◌≡◌, ℕ, ◌==◌, List, Decides, refl, ap}
use Rattle.std.specs.Cmp.Lexicographic.{pointwise}
use Rattle.std.specs.Ordering.{on}
use Rattle.std.proofs.lemmas.Slice.Eq.{slice_eq-Decides}
use Rattle.std.proofs.lemmas.Bool.Decides.{Decides-eqb, Decides-like}
use Rattle.boxes.specs.declared.ValueBox.{ValueBox}

pub equal_decides : (a b : ValueBox) → Decides (on (λ x. x.sets) (pointwise ◌==◌) a b) (a ≡ b)
equal_decides a b =
    let made : List ℕ → ValueBox = λ s. record { sets = s } in
    Decides-like (on (λ x. x.sets) (pointwise ◌==◌) a b) (λ e. ap made e) (λ e. ap (λ (x : ValueBox). x.sets) e) (slice_eq-Decides Decides-eqb a.sets b.sets _ refl)
