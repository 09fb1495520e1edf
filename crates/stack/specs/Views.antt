-- What a stack holds, and has room for.
use Rattle.std.specs.Prelude.{ℕ, List, length}
use Rattle.stack.specs.Stacked.{stacked}
use Rattle.stack.specs.declared.lent.Stack.{Stack}

abbrev pub on : {T : Type 0} → Stack T → List T
on s = stacked s.items.now s.len

abbrev pub room : {T : Type 0} → Stack T → ℕ
room s = length s.items.now
