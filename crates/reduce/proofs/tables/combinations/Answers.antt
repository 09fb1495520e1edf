use Rattle.std.proofs.Common.{◌^◌, ◌≤◌, le_trans, arith}
use native.Mathlib.Nat.{pow-le-pow_right}
use Rattle.std.proofs.lemmas.Nat.{mul-le}
use Rattle.reduce.proofs.tables.combinations.Goals as goal

pub overflow_mul-all : goal.overflow_mul-all
overflow_mul-all c =
    let few : c.loop-x.x-index ≤ 4 = omega (arith, c.requires.few) in
    let fits : c.loop-x.all ≤ 32 ^ 4 = le_trans c.loop-x.invariant.1 (pow-le-pow_right {n = 32} (omega arith) few) in
    omega (arith, mul-le c.loop-x.all c.size-all.result (32 ^ 4) 32 fits c.size-all.ensures.bound)
