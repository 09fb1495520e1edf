use Rattle.std.proofs.Common.{drop}
use Rattle.draft.specs.Entries.{numbered}
use Rattle.draft.specs.Writing.{Kept, field_at}
use Rattle.draft.proofs.Dues.{Due}
use Rattle.draft.proofs.fields.FieldWriter.put_run.Given as goal

abbrev pub invariant-loop-j : goal.invariant-loop-j
invariant-loop-j l = record {
  due : Due l.initial.self.out.now l.initial.self.pen l.self.out.now l.self.pen (numbered (field_at l.run) 0 l.values) (numbered (field_at l.run) l.j (drop l.j l.values));
  kept : Kept l.initial.self l.self;
}
