use Rattle.std.proofs.Common.{◌≡◌, ◌*◌, ◌^◌, ◌≤◌, drop}
use Rattle.propagate.specs.Sets.{placed}
use Rattle.reduce.specs.Universal.{ways}
use Rattle.reduce.proofs.tables.combinations.Given as goal

abbrev pub invariant-loop-x : goal.invariant-loop-x
invariant-loop-x l = (l.all * ways (placed l.sets) (drop l.x-index l.scope) ≡ ways (placed l.sets) l.scope) × (l.all ≤ 32 ^ l.x-index)
