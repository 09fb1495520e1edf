use Rattle.std.proofs.Common.{◌≡◌, ℕ, ◌<◌, ◌≤◌, length, get_or}
use Rattle.values.specs.Members.{In}
use Rattle.sheet.specs.Decisions.{stands}
use Rattle.sheet.specs.Starts.{Leaves}
use Rattle.sheet.proofs.open.Sheet.starting_sets.Given as goal

abbrev pub invariant-loop-x : goal.invariant-loop-x
invariant-loop-x l =
    (length l.sets ≡ 24)
    × ((k v : ℕ) → k < l.x → In (get_or l.sets k 0) v → (v < get_or l.sizes k 0) × Leaves (stands l.self.sets) k v)
    × ((k v : ℕ) → k < l.x → v < get_or l.sizes k 0 → Leaves (stands l.self.sets) k v → In (get_or l.sets k 0) v)
    × ((k : ℕ) → l.x ≤ k → get_or l.sets k 0 ≡ 0)
