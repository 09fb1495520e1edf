use native.Mathlib.Numerals.{unary_clauses}
use Rattle.book.specs.Books.{contents}
use Rattle.book.proofs.Sizes.{valid, size_most}
use Rattle.book.proofs.book.Book.sizes.Goals as goal

pub returns-clause-sized : goal.returns-clause-sized
returns-clause-sized c = simp unary_clauses (size_most (contents c.args.self.now) (valid c.args.self.now))
