use Rattle.std.proofs.Common.{◌<◌, length, arith, rules}
use Rattle.stack.proofs.Stacks.{length_stacked}
use Rattle.stack.proofs.lent.Stack.push.Goals as goal

pub invariant_of-self : goal.invariant_of-self
invariant_of-self g c =
    let s = c.args.self.now in
    let l : s.len < length s.items.now = omega (arith, length_stacked s.items.now s.len s.fits) in
    search rules
