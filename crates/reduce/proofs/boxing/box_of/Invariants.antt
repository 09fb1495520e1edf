use Rattle.reduce.proofs.Recordings.{Recording}
use Rattle.reduce.proofs.boxing.box_of.Given as goal

abbrev pub invariant-loop-x : goal.invariant-loop-x
invariant-loop-x l = Recording l.bound l.size-items l.values l.x l.noted
