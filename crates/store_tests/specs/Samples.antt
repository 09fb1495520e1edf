-- A box worked by hand, and what a look and a tell make of any store.
use Rattle.std.specs.Prelude.{ℕ, ◌^◌, List, [], ◌∷◌, ◌++◌, replicate}
use Rattle.boxes.specs.declared.ValueBox.{ValueBox}
use Rattle.store.specs.Meaning.{Meaning, Looked, Told}

-- the sets of a box that records only its last three options
abbrev pub worked : List ℕ
worked = replicate 21 0 ++ (2 ^ 30 ∷ 5 ∷ 6 ∷ [])

-- a look for a box, and then a tell of it
abbrev pub Noted : {S : Type 0} → Meaning S → S → ValueBox → S → Type 0
Noted {S} m s b u = (t : S) × Looked m s b t × Told m t b u
