use Rattle.reduce.proofs.Changes.{inside_meets}
use Rattle.reduce.proofs.laws.a_fit_inside_meets_the_box.Goals as goal

pub returns : goal.returns
returns c = inside_meets
