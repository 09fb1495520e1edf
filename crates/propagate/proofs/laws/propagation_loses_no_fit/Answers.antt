use Rattle.propagate.proofs.Fits.{loses_no_fit}
use Rattle.propagate.proofs.laws.propagation_loses_no_fit.Goals as goal

pub returns : goal.returns
returns c = loses_no_fit
