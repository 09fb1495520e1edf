use Rattle.trials.proofs.PlainTrees.{one_result}
use Rattle.trials.proofs.laws.the_plain_ask_has_one_result.Goals as goal

pub returns : goal.returns
returns c = one_result
