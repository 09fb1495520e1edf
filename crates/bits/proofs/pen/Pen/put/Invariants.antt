use Rattle.std.proofs.Common.{◌+◌, ◌++◌}
use Rattle.bits.specs.Bits.{spell}
use Rattle.bits.specs.Ink.{inked, place}
use Rattle.bits.proofs.Inks.{Inked}
use Rattle.bits.proofs.pen.Pen.put.Given as goal

abbrev pub invariant-loop-count : goal.invariant-loop-count
invariant-loop-count l = Inked (inked l.initial.out l.self ++ spell l.width l.value) (place l.self + l.width) l.initial.out l.out l.at l.count l.held

abbrev pub decreases-loop-count : goal.decreases-loop-count
decreases-loop-count l = l.count
