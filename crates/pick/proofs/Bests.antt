-- The best option so far.
use Rattle.std.proofs.Common.{◌≡◌, ℕ, List, Some, None, Option}
use Rattle.trials.specs.Picks.{size_at}
use Rattle.pick.specs.Fewest.{AllFew, Fewest}

-- the best of the first m, and how many values it has, 33 where there is none
abbrev pub Best : ℕ → List ℕ → Option ℕ → ℕ → Type 0
Best m array None least = (least ≡ 33) × AllFew m array
Best m array (Some x) least = Fewest m array x × (least ≡ size_at array x)
