use Rattle.std.proofs.Common.{map, take}
use Rattle.propagate.specs.Sets.{placed}
use Rattle.propagate.proofs.Books.{table_at}
use Rattle.reduce.specs.Steps.{Binds}
use Rattle.reduce.proofs.boxing.bound_options.Given as goal

abbrev pub invariant-loop-table : goal.invariant-loop-table
invariant-loop-table l = Binds (placed l.sets) (map (table_at l.book) (take l.table-index l.tables)) l.bound
