use Rattle.propagate.proofs.Fits.{ends_one_way}
use Rattle.propagate.proofs.laws.propagation_ends_one_way.Goals as goal

pub returns : goal.returns
returns c = ends_one_way
