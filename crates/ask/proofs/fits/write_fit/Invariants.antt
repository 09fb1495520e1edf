use Rattle.ask.proofs.Writings.{Writing}
use Rattle.ask.proofs.fits.write_fit.Given as goal

abbrev pub invariant-loop-x : goal.invariant-loop-x
invariant-loop-x l = Writing l.sets l.initial.fit l.x l.fit
