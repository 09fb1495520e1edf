use Rattle.std.proofs.Common.{◌≡◌, length}
use Rattle.trail.specs.Rooms.{OnTrail}
use Rattle.trail.specs.Trails.{undoing, since, until, Known}
use Rattle.stack.specs.Views.{on}
use Rattle.trail.proofs.search.Search.undo.Given as goal

abbrev pub invariant-undoing : goal.invariant-undoing
invariant-undoing l =
    let before = l.initial.self in
    Known (on l.self.trail)
    × (undoing (since l.mark (on l.self.trail)) l.self.sets ≡ undoing (since l.mark (on before.trail)) before.sets)
    × (until l.mark (on l.self.trail) ≡ until l.mark (on before.trail))
    × OnTrail before l.self

abbrev pub decreases-undoing : goal.decreases-undoing
decreases-undoing l = length (on l.self.trail)
