use Rattle.std.proofs.Common.{arith}
use Rattle.book.specs.Books.{contents}
use Rattle.propagate.specs.Sets.{sets_of}
use Rattle.book.proofs.Sizes.{valid}
use Rattle.propagate.proofs.Ends.{settled_all}
use Rattle.propagate.proofs.fixpoint.propagate.Goals as goal

pub propagate_from-requires : goal.propagate_from-requires
propagate_from-requires c =
    let ok = valid c.args.book.now in
    settled_all (contents c.args.book.now).sizes (sets_of (contents c.args.book.now) c.args.sets.now.sets) (omega (arith, ok.few)) (contents c.args.book.now).tables ok.tables
