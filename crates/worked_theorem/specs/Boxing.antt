-- Five options with four values each that have to differ, the first two of which are fixed, either way round.
use Rattle.std.specs.Prelude.{ℕ, List, [], ◌∷◌}
use Rattle.propagate.specs.Propagation.{Ends}
use Rattle.propagate.specs.declared.outcome.Outcome.TheVariants.{Narrowed}
use Rattle.reduce.specs.Boxes.{BoxOf}
use Rattle.worked_theorem.specs.Books.{array_of, five}

-- the sets of the five options, where the others have all four values, and where they have the last two alone
abbrev pub fixed : ℕ → ℕ → List ℕ
fixed a b = array_of (a ∷ b ∷ 15 ∷ 15 ∷ 15 ∷ [])

abbrev pub narrowed : ℕ → ℕ → List ℕ
narrowed a b = array_of (a ∷ b ∷ 12 ∷ 12 ∷ 12 ∷ [])

-- a box that records the last three options, each with its last two values
abbrev pub last_three : List ℕ
last_three = array_of (0 ∷ 0 ∷ 12 ∷ 12 ∷ 12 ∷ [])

-- Both ways have one box.
pub record SameBox : Type 0 where
  -- the first option has value 0, the second value 1
  pub one_way : Ends five (fixed 1 2) Narrowed (narrowed 1 2)
  pub one_box : BoxOf five (narrowed 1 2) last_three
  -- the first option has value 1, the second value 0
  pub other_way : Ends five (fixed 2 1) Narrowed (narrowed 2 1)
  pub other_box : BoxOf five (narrowed 2 1) last_three
