use Rattle.std.proofs.Common.{refl, ap, ◌∙◌}
use lib.Bits.{bit_or}
use borrow.Author.Tests.{clash}
use Rattle.sheet.specs.Starts.{Spares}
use Rattle.sheet.proofs.Collecting.{collect_put, collect_skip}
use Rattle.sheet.proofs.open.starts.Decided.start.Goals as goal
use Rattle.sheet.proofs.open.starts.Decided.start.Goals.{then-leaves, else-leaves}

pub loop-value-preserved : goal.loop-value-preserved
loop-value-preserved c =
    let P = Spares c.args.self.fixed c.args.self.barred in
    elim c.if-leaves.branch [
      | then-leaves w ↦ collect_put P c.loop-value.value c.loop-value.left _ c.loop-value.invariant (w.left-is ∙ ap (bit_or c.loop-value.left) w.only-left.ensures) (w.if-leaves.ensures.0 refl)
      | else-leaves w ↦ collect_skip P c.loop-value.value c.loop-value.left _ c.loop-value.invariant w.left-is (λ p. clash (w.if-leaves.ensures.1 p))
    ]
