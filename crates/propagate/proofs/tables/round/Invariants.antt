use Rattle.std.proofs.Common.{map, take}
use Rattle.book.specs.Books.{contents}
use Rattle.propagate.proofs.Books.{table_at}
use Rattle.propagate.proofs.Rounds.{Rounding}
use Rattle.propagate.proofs.tables.round.Given as goal

abbrev pub invariant-loop-table : goal.invariant-loop-table
invariant-loop-table l = Rounding (contents l.book) l.initial.sets (map (table_at l.book) (take l.table-index l.tables)) l.sets l.changed
