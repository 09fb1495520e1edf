use Rattle.std.proofs.Common.{arith}
use Rattle.book.specs.Books.{contents}
use Rattle.book.proofs.Sizes.{valid}
use Rattle.reduce.proofs.Recordings.{recording_more, boxed}
use Rattle.reduce.proofs.boxing.box_of.Goals as goal

pub returns : goal.returns
returns c =
    boxed (contents c.args.book.now) (valid c.args.book.now) c.args.sets.now.sets c.trim.new.sets c.trim.ensures c.bound_options-bound.result c.bound_options-bound.ensures
    c.sizes-size-items.result.now c.sizes-size-items.ensures.value c.loop-x.x (omega arith) c.loop-x.noted c.loop-x.invariant

pub loop-x-preserved : goal.loop-x-preserved
loop-x-preserved c = recording_more _ _ _ c.loop-x.x _ c.loop-x.noted c.recorded.result (omega (arith, c.sizes-size-items.ensures.few)) (omega arith) c.recorded.ensures c.loop-x.invariant
