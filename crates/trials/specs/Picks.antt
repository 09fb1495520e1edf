-- Which option a trial branches on, and by which of its values.
use Rattle.std.specs.Prelude.{◌≡◌, ℕ, ◌^◌, ◌<◌, ◌≤◌, List, length, count_ones, slice_index}
use Rattle.grammar.specs.Contents.{Contents}
use Rattle.values.specs.Members.{Lowest}

-- how many values an option has
abbrev pub size_at : List ℕ → ℕ → ℕ
size_at array x = count_ones (slice_index array x)

-- The pick: the option with the fewest values among those with two or more, the lowest number of them, and its lowest value.
pub record Picked (c : Contents) (array : List ℕ) (option value : ℕ) : Type 0 where
  pub known : option < length c.sizes
  pub two : 2 ≤ size_at array option
  pub fewest : (y : ℕ) → y < length c.sizes → 2 ≤ size_at array y → size_at array option ≤ size_at array y
  pub first : (y : ℕ) → y < option → 2 ≤ size_at array y → size_at array option < size_at array y
  pub lowest : Lowest (slice_index array option) value

-- each option has one value, and these are the values
pub record Single (c : Contents) (array values : List ℕ) : Type 0 where
  pub each : length values ≡ length c.sizes
  pub only : (x : ℕ) → x < length c.sizes → slice_index array x ≡ 2 ^ slice_index values x
