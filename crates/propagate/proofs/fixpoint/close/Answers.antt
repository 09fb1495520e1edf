use Rattle.std.proofs.Common.{length, ap, arith}
use Rattle.book.specs.Books.{contents}
use Rattle.propagate.proofs.Sweeps.{sweeping_more, round_empties, ends}
use Rattle.propagate.proofs.fixpoint.close.Goals as goal

pub sweep-preserved : goal.sweep-preserved
sweep-preserved c =
    sweeping_more (contents c.args.book.now) c.args.sets.now c.sweep.sets c.sweep.left c.sweep.invariant _ (ap length c.sizes-options.ensures.value)
    c.round-left.new.sets c.round-left.result c.round-left.ensures c.has_empty.result c.has_empty.ensures c.if-has_empty.false

pub returns-then-has_empty : goal.returns-then-has_empty
returns-then-has_empty c =
    round_empties (contents c.args.book.now) c.args.sets.now c.sweep.sets c.sweep.left c.sweep.invariant _ (ap length c.sizes-options.ensures.value)
    c.round-left.new.sets c.round-left.result c.round-left.ensures c.has_empty.result c.has_empty.ensures c.if-has_empty.true

pub returns : goal.returns
returns c =
    ends (contents c.args.book.now) c.args.sets.now c.sweep.sets c.sweep.left c.sweep.invariant _ (ap length c.sizes-options.ensures.value)
    (omega arith) c.has_empty-2.result c.has_empty-2.ensures
