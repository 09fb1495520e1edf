use Rattle.propagate.specs.Sets.{placed}
use Rattle.propagate.proofs.Collected.{Found}
use Rattle.propagate.proofs.rows.support.Given as goal

abbrev pub invariant-loop-row : goal.invariant-loop-row
invariant-loop-row l = Found (placed l.sets) l.scope l.rows l.row-index l.values l.count
