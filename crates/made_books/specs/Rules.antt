-- Which rows a table lists by rule.
use Rattle.std.specs.Prelude.{◌≡◌, ℕ, ◌%◌, List, sum}

-- the values have an odd sum
abbrev pub IsOdd : List ℕ → Type 0
IsOdd values = sum values % 2 ≡ 1
