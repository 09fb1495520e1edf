use Rattle.std.proofs.Common.{ℕ, ◌<◌}
use Rattle.values.specs.Members.{In}
use Rattle.sheet.specs.Starts.{Spares}
use Rattle.sheet.proofs.open.starts.Decided.start.Given as goal

abbrev pub invariant-loop-value : goal.invariant-loop-value
invariant-loop-value l =
    ((v : ℕ) → In l.left v → (v < l.value) × Spares l.self.fixed l.self.barred v)
    × ((v : ℕ) → v < l.value → Spares l.self.fixed l.self.barred v → In l.left v)
