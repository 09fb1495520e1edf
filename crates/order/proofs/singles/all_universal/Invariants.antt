use Rattle.std.proofs.Common.{ℕ, ◌<◌}
use Rattle.book.specs.Books.{contents}
use Rattle.propagate.specs.Sets.{sets_of}
use Rattle.reduce.specs.Universal.{UniversalAt}
use Rattle.order.proofs.singles.all_universal.Given as goal

abbrev pub invariant-loop-table : goal.invariant-loop-table
invariant-loop-table l = (i : ℕ) → i < l.table → UniversalAt (contents l.book) (sets_of (contents l.book) l.sets.sets) i
