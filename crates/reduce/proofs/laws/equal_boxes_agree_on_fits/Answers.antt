use Rattle.reduce.proofs.Changes.{equal_boxes}
use Rattle.reduce.proofs.laws.equal_boxes_agree_on_fits.Goals as goal

pub returns : goal.returns
returns c = equal_boxes
