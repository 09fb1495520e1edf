-- A stack holds no more than it has room for.
use Rattle.std.proofs.Common.{◌≤◌, length, arith}
use Rattle.stack.specs.declared.lent.Stack.{Stack}
use Rattle.stack.specs.Views.{on, room}
use Rattle.stack.proofs.Stacks.{length_stacked}

pub on_room : {T : Type 0} (s : Stack T) → length (on s) ≤ room s
on_room s = omega (arith, length_stacked s.items.now s.len s.fits, s.fits)
