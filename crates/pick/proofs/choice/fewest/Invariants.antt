use Rattle.pick.proofs.Bests.{Best}
use Rattle.pick.proofs.choice.fewest.Given as goal

abbrev pub invariant-loop-x : goal.invariant-loop-x
invariant-loop-x l = Best l.x l.sets l.best l.least
