use Rattle.std.proofs.Common.{arith}
use Rattle.bits.proofs.Laws.{read_more}
use Rattle.bits.proofs.cursor.Cursor.field.Goals as goal

pub loop-i-preserved : goal.loop-i-preserved
loop-i-preserved c = read_more c.args.self.now.file.now c.args.self.now.at c.loop-i.i c.loop-i.value c.loop-i.invariant (omega arith) (omega arith)
