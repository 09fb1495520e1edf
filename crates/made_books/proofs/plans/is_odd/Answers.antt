use Rattle.std.proofs.Common.{rules}
use Rattle.made_books.proofs.Odd.{odd_count}
use Rattle.made_books.proofs.plans.is_odd.Goals as goal

pub returns : goal.returns
returns c = let e = odd_count c.args.values.now in search (rules, e)
