use Rattle.reduce.proofs.Changes.{one_box}
use Rattle.reduce.proofs.laws.sets_have_one_box.Goals as goal

pub returns : goal.returns
returns c = one_box
