-- A set of values is a number, in which value v is worth 2 ^ v.
use Rattle.std.specs.Prelude.{◌≡◌, ℕ, ◌/◌, ◌%◌, ◌^◌, ◌<◌, ◌≤◌, ◌≢◌}

-- v is in the set s
abbrev pub In : ℕ → ℕ → Type 0
In s v = s / 2 ^ v % 2 ≡ 1

-- v is the lowest value of the set s
pub record Lowest (s v : ℕ) : Type 0 where
  pub member : In s v
  pub lowest : (w : ℕ) → In s w → v ≤ w

-- r has the values of s but v
pub record Without (s v r : ℕ) : Type 0 where
  pub kept : (w : ℕ) → In s w → (w ≢ v) → In r w
  pub taken : (w : ℕ) → In r w → In s w × (w ≢ v)
  pub less : r < s
