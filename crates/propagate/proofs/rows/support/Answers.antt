use Rattle.std.proofs.Common.{◌+◌, ◌<◌, [], length, get_or, take, Decides, sym, subst, subst₂, arith}
use Rattle.propagate.specs.Sets.{placed}
use Rattle.propagate.specs.Support.{Live}
use Rattle.propagate.proofs.Collected.{Found, found_no, found_yes}
use Rattle.propagate.proofs.rows.support.Goals as goal
use Rattle.propagate.proofs.rows.support.Goals.{then-live, else-live}

pub loop-row-preserved : goal.loop-row-preserved
loop-row-preserved c =
    let rows = c.args.rows.now in
    let i = c.loop-row.row-index in
    let scope = c.args.scope.now in
    let sets = placed c.args.sets.now in
    let inside : i < length rows = omega arith in
    elim c.if-live.branch [
      | then-live w ↦
          subst (λ seen. Found sets scope rows (i + 1) seen c.if-live.count) (sym w.values-is)
          (found_yes sets scope rows i inside c.loop-row.values c.loop-row.count w.add-next.result c.if-live.count (omega (arith, w.count-is))
          (subst (λ b. Decides b (Live sets scope (take (length scope) (get_or rows i [])))) w.if-live.true c.live.ensures)
          (λ j l. w.add-next.ensures j (omega (arith, c.requires.few))) (λ j l. c.requires.small i j inside l) c.loop-row.invariant)
      | else-live w ↦
          subst₂ (Found sets scope rows (i + 1)) (sym w.values-is) (sym w.count-is)
          (found_no sets scope rows i inside c.loop-row.values c.loop-row.count
          (subst (λ b. Decides b (Live sets scope (take (length scope) (get_or rows i [])))) w.if-live.false c.live.ensures) c.loop-row.invariant)
    ]
