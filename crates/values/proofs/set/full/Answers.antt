use Rattle.std.proofs.Common.{◌-◌, ◌^◌, ap, ◌∙◌, arith}
use Rattle.std.proofs.lemmas.Nat.Bits.{ones_shr}
use Rattle.values.proofs.set.full.Goals as goal

pub returns : goal.returns
returns c = ones_shr 32 (32 - c.args.size) (omega arith) ∙ ap (λ n. 2 ^ n - 1) (omega arith)
