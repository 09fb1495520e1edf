use Rattle.std.proofs.Common.{◌^◌, ◌<◌, arith}
use Rattle.values.proofs.Digits.{in_lt, out_in, in_out, out_less}
use Rattle.values.proofs.set.without.Goals as goal

pub only-requires : goal.only-requires
only-requires c = let fits : c.args.set < 2 ^ 32 = omega arith in in_lt 32 c.args.set c.args.value fits c.requires

pub returns : goal.returns
returns c =
    let s = c.args.set in
    let v = c.args.value in
    rw c.only.ensures record { kept = λ w h ne. in_out s v w h ne; taken = λ w h. out_in s v w c.requires h; less = out_less s v c.requires }
