use Rattle.trials.proofs.RightAnswers.{plain_finds_if_any}
use Rattle.trials.proofs.laws.the_plain_ask_finds_a_fit_if_any.Goals as goal

pub returns : goal.returns
returns c = plain_finds_if_any
