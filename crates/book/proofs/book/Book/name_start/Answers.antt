use Rattle.std.proofs.Common.{arith}
use Rattle.book.proofs.Names.{sums_le}
use Rattle.book.proofs.book.Book.name_start.Goals as goal

pub overflow_add-result : goal.overflow_add-result
overflow_add-result c =
    let b = c.args.self.now in
    let le = sums_le b.index.lengths c.args.option b.index.options (omega arith) in
    omega (arith, b.spelled, b.inside, c.together.ensures)

pub returns-clause-inside : goal.returns-clause-inside
returns-clause-inside c =
    let b = c.args.self.now in
    let le = sums_le b.index.lengths c.args.option b.index.options (omega arith) in
    omega (arith, b.spelled, b.inside, c.together.ensures)
