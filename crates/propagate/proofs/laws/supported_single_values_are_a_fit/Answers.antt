use Rattle.propagate.proofs.Fits.{single_sets_fit}
use Rattle.propagate.proofs.laws.supported_single_values_are_a_fit.Goals as goal

pub returns : goal.returns
returns c = single_sets_fit
