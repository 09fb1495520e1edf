-- Over which slices a slot store can be laid.
use Rattle.std.specs.Prelude.{ℕ, ◌≤◌}

-- of 1 to 512 slots
abbrev pub Sized : ℕ → Type 0
Sized n = (1 ≤ n) × (n ≤ 512)
