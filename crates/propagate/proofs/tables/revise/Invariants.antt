use Rattle.std.proofs.Common.{length}
use Rattle.book.specs.Books.{contents}
use Rattle.propagate.specs.Steps.{table_from}
use Rattle.propagate.proofs.Books.{rows_of}
use Rattle.propagate.proofs.Cuts.{Cutting}
use Rattle.propagate.proofs.tables.revise.Given as goal

abbrev pub invariant-loop-j : goal.invariant-loop-j
invariant-loop-j l = Cutting (length (contents l.book).sizes) (table_from l.scope (rows_of l.book l.table)) l.found.values l.initial.sets l.j l.sets l.changed
