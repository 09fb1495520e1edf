use Rattle.std.proofs.Common.{drop}
use Rattle.draft.specs.Entries.{option_fields}
use Rattle.draft.specs.Writing.{Kept}
use Rattle.draft.proofs.Dues.{Due}
use Rattle.draft.proofs.fields.FieldWriter.put_options.Given as goal

abbrev pub invariant-loop-i : goal.invariant-loop-i
invariant-loop-i l = record {
  due : Due l.initial.self.out.now l.initial.self.pen l.self.out.now l.self.pen (option_fields 0 l.sizes l.lengths) (option_fields l.i (drop l.i l.sizes) (drop l.i l.lengths));
  kept : Kept l.initial.self l.self;
}
