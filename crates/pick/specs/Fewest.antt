-- The option with the fewest values, among the first options.
use Rattle.std.specs.Prelude.{ℕ, ◌<◌, ◌≤◌, List}
use Rattle.trials.specs.Picks.{size_at}

-- none of the first m options has two values
abbrev pub AllFew : ℕ → List ℕ → Type 0
AllFew m array = (y : ℕ) → y < m → size_at array y < 2

-- of the first m options with two values or more, this has the fewest, and those before it that have two have more
pub record Fewest (m : ℕ) (array : List ℕ) (option : ℕ) : Type 0 where
  pub known : option < m
  pub two : 2 ≤ size_at array option
  pub fewest : (y : ℕ) → y < m → 2 ≤ size_at array y → size_at array option ≤ size_at array y
  pub first : (y : ℕ) → y < option → 2 ≤ size_at array y → size_at array option < size_at array y
