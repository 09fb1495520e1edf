use Rattle.std.proofs.Common.{◌≡◌, ℕ, ◌^◌, ◌<◌, length, get_or}
use Rattle.order.proofs.singles.singles.Given as goal

abbrev pub invariant-loop-x : goal.invariant-loop-x
invariant-loop-x l = (length l.sets ≡ 24) × ((k : ℕ) → k < l.x → get_or l.sets k 0 ≡ 2 ^ get_or l.values k 0)
