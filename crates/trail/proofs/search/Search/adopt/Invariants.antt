use Rattle.stack.specs.Views.{on, room}
use Rattle.trail.specs.Rooms.{OnTrail}
use Rattle.trail.proofs.Adopting.{Adopted}
use Rattle.trail.proofs.search.Search.adopt.Given as goal

abbrev pub invariant-loop-x : goal.invariant-loop-x
invariant-loop-x l =
    Adopted l.options (room l.initial.self.trail) l.next l.initial.self.sets (on l.initial.self.trail) l.x l.self.sets (on l.self.trail)
    × OnTrail l.initial.self l.self
