use Rattle.std.proofs.Common.{◌^◌, ◌<◌, arith}
use Rattle.values.proofs.Digits.{trailing_member, trailing_lowest}
use Rattle.values.proofs.set.lowest.Goals as goal

pub returns : goal.returns
returns c =
    let fits : c.args.set < 2 ^ 32 = omega arith in
    record { member = trailing_member 32 c.args.set fits c.requires; lowest = λ w h. trailing_lowest 32 c.args.set w h }
