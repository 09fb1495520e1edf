use Rattle.std.proofs.Common.{get_or, arith}
use Rattle.values.proofs.Digits.{some_from_ones}
use Rattle.pick.proofs.choice.pick.Goals as goal

pub lowest-requires : goal.lowest-requires
lowest-requires c = some_from_ones (get_or c.args.sets.now.sets c.in_ok-option.option 0) (omega (arith, c.in_ok-option.ensures.two))
