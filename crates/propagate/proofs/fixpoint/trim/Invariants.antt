use Rattle.propagate.proofs.Trims.{Trimming}
use Rattle.propagate.proofs.fixpoint.trim.Given as goal

abbrev pub invariant-loop-x : goal.invariant-loop-x
invariant-loop-x l = Trimming l.size-items l.initial.sets l.x l.sets
