use Rattle.trials.proofs.Remembering.{memory_loses_no_fit_lem}
use Rattle.trials.proofs.laws.memory_loses_no_fit.Goals as goal

pub returns : goal.returns
returns g c = memory_loses_no_fit_lem _ g.S.Store
