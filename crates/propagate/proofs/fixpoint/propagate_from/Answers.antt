use Rattle.std.proofs.Common.{refl}
use Rattle.book.specs.Books.{contents}
use Rattle.book.proofs.Sizes.{valid}
use Rattle.propagate.proofs.Ends.{settled_at, leaves_none_at, propagated}
use Rattle.propagate.proofs.fixpoint.propagate_from.Goals as goal

pub returns : goal.returns
returns c = propagated (contents c.args.book.now) c.args.sets.now.sets c.trim.new.sets c.trim.ensures (valid c.args.book.now) c.close.new.sets c.if-not-close.ensures

pub returns-then-not-close : goal.returns-then-not-close
returns-then-not-close c = (leaves_none_at (contents c.args.book.now) c.args.sets.now.sets c.trim.new.sets c.trim.ensures c.if-not-close.ensures, refl)

pub close-requires : goal.close-requires
close-requires c = settled_at (contents c.args.book.now) c.args.sets.now.sets c.trim.new.sets c.trim.ensures (valid c.args.book.now) c.args.pending c.requires
