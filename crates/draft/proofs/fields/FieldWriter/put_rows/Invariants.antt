use Rattle.std.proofs.Common.{◌+◌, map, take, drop}
use Rattle.draft.specs.Entries.{row_fields}
use Rattle.draft.specs.Writing.{Kept}
use Rattle.draft.proofs.Dues.{Due}
use Rattle.draft.proofs.fields.FieldWriter.put_rows.Given as goal

abbrev pub invariant-loop-i : goal.invariant-loop-i
invariant-loop-i l = record {
  due : Due l.initial.self.out.now l.initial.self.pen l.self.out.now l.self.pen (row_fields l.number l.first (map (take l.table.arity) l.rows))
      (row_fields l.number (l.first + l.i) (map (take l.table.arity) (drop l.i l.rows)));
  kept : Kept l.initial.self l.self;
}
