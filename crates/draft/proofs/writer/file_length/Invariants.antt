use Rattle.std.proofs.Common.{◌≡◌, ◌+◌, ◌*◌, ◌≤◌, map, length, take, sum_by}
use Rattle.grammar.specs.Layout.{table_of}
use Rattle.draft.specs.Lengths.{table_bits_of}
use Rattle.draft.proofs.writer.file_length.Given as goal

abbrev pub invariant-loop-table : goal.invariant-loop-table
invariant-loop-table l =
    (l.bits ≡ 19 + 10 * length l.parts.sizes.now + sum_by table_bits_of (take l.table-index (map (table_of l.parts.rows.now) l.parts.tables.now)))
    × (l.bits ≤ 259 + 20514 * l.table-index)
