-- What a stack over a slice holds, the top first.
use Rattle.std.specs.Prelude.{ℕ, List, reverse, take}

unfoldable pub stacked : {T : Type 0} → List T → ℕ → List T
stacked xs n = reverse (take n xs)
