use Rattle.std.proofs.Common.{◌+◌, min, sum}
use Rattle.book.specs.Books.{contents}
use Rattle.propagate.proofs.Sweeps.{Sweeping}
use Rattle.propagate.proofs.fixpoint.close.Given as goal

abbrev pub invariant-sweep : goal.invariant-sweep
invariant-sweep l = Sweeping (contents l.book) l.initial.sets l.sets l.left

abbrev pub decreases-sweep : goal.decreases-sweep
decreases-sweep l = sum l.sets + min l.left 1
