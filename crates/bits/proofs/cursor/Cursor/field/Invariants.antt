use Rattle.bits.proofs.Laws.{Sofar}
use Rattle.bits.proofs.cursor.Cursor.field.Given as goal

abbrev pub invariant-loop-i : goal.invariant-loop-i
invariant-loop-i l = Sofar l.self.file.now l.self.at l.i l.value
