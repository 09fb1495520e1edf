use Rattle.propagate.proofs.Fits.{emptied_where_empty}
use Rattle.propagate.proofs.laws.emptied_where_a_largest_set_is_empty.Goals as goal

pub returns : goal.returns
returns c = emptied_where_empty
