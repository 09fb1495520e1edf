use Rattle.std.proofs.Common.{take, ◌∙◌, arith, length-take-le}
use Rattle.book_tables.proofs.Orders.{before_is}
use Rattle.book_tables.proofs.before.Goals as goal

pub returns : goal.returns
returns c =
    let n = c.args.count in
    let xs = c.args.first.now in
    let ys = c.args.second.now in
    let a = length-take-le n xs (omega arith) in
    let b = length-take-le n ys (omega arith) in
    c.lt.ensures ∙ before_is (take n xs) (take n ys) (omega arith)
