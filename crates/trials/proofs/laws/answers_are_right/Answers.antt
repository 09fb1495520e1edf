use Rattle.trials.proofs.PlainEnds.{answers_are_right_lem}
use Rattle.trials.proofs.laws.answers_are_right.Goals as goal

pub returns : goal.returns
returns g c = answers_are_right_lem _ g.S.Store
