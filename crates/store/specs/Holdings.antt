-- What a call may do to a set of boxes that is held.
use Rattle.std.specs.Prelude.{◌≡◌, ◌⊎◌}
use Rattle.boxes.specs.declared.ValueBox.{ValueBox}

-- a set that has no box
abbrev pub Nothing : (ValueBox → Type 0) → Type 0
Nothing held = (x : ValueBox) → held x → ⊥

-- two sets with the same boxes
abbrev pub Same : (ValueBox → Type 0) → (ValueBox → Type 0) → Type 0
Same before after = (x : ValueBox) → (before x → after x) × (after x → before x)

-- nothing is new in the second set but one box, and that box may be missing too
abbrev pub Grown : (ValueBox → Type 0) → ValueBox → (ValueBox → Type 0) → Type 0
Grown before b after = (x : ValueBox) → after x → before x ⊎ (x ≡ b)
