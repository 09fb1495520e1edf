use Rattle.std.proofs.Common.{◌-◌, arith}
use Rattle.grammar.proofs.Windows.{take_min}
use Rattle.grammar.proofs.index.TableIndex.own_values.Goals as goal

pub returns : goal.returns
returns c = take_min c.args.row.now c.args.self.now.arity (c.min.result - 0) (omega (arith, c.min.ensures))
