use Rattle.trials.proofs.RightAnswers.{plain_is_right}
use Rattle.trials.proofs.laws.the_plain_ask_is_right.Goals as goal

pub returns : goal.returns
returns c = plain_is_right
