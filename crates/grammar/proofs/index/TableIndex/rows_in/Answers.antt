use Rattle.std.proofs.Common.{arith}
use Rattle.grammar.proofs.Windows.{window}
use Rattle.grammar.proofs.index.TableIndex.rows_in.Goals as goal

pub returns : goal.returns
returns c = window c.args.rows.now c.args.self.now.start c.args.self.now.count c.min-start.result c.min.result (omega arith) (omega arith)
