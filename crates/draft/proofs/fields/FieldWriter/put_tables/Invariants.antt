use Rattle.std.proofs.Common.{◌+◌, ◌≤◌, map, length, drop, sum}
use Rattle.grammar.specs.Layout.{table_of}
use Rattle.draft.specs.Entries.{tables_fields}
use Rattle.draft.specs.Writing.{Kept}
use Rattle.draft.proofs.Dues.{Due}
use Rattle.draft.proofs.fields.FieldWriter.put_tables.Given as goal

abbrev pub invariant-loop-i : goal.invariant-loop-i
invariant-loop-i l = record {
  due : Due l.initial.self.out.now l.initial.self.pen l.self.out.now l.self.pen (tables_fields 0 0 (map (table_of l.rows) l.tables))
      (tables_fields l.i l.first (map (table_of l.rows) (drop l.i l.tables)));
  few : l.first + sum (map (λ t. length t.rows) (map (table_of l.rows) (drop l.i l.tables))) ≤ 8192;
  kept : Kept l.initial.self l.self;
}
