use Rattle.trials.proofs.PlainEnds.{plain_ends}
use Rattle.trials.proofs.laws.the_plain_ask_ends.Goals as goal

pub returns : goal.returns
returns c = plain_ends
