use Rattle.reduce.proofs.Changes.{dead_box}
use Rattle.reduce.proofs.laws.without_a_fit_inside_none_meets_the_box.Goals as goal

pub returns : goal.returns
returns c = dead_box
