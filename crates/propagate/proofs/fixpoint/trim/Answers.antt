use Rattle.std.proofs.Common.{◌≡◌, ◌-◌, ◌^◌, get_or, subst, arith}
use Rattle.propagate.proofs.Trims.{trimming_more}
use Rattle.propagate.proofs.fixpoint.trim.Goals as goal

pub loop-x-preserved : goal.loop-x-preserved
loop-x-preserved c =
    trimming_more _ _ _ _ _ (omega (arith, c.sizes-size-items.ensures.few))
    (subst (λ n. c.full.result ≡ 2 ^ n - 1) {y = get_or c.sizes-size-items.result.now c.loop-x.x 0} (omega arith) c.full.ensures) c.loop-x.invariant
