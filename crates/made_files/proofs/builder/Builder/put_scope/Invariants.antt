use Rattle.std.proofs.Common.{◌≡◌, ◌+◌, ◌*◌}
use Rattle.made_files.specs.Lengths.{bit_count}
use Rattle.made_files.proofs.builder.Builder.put_scope.Given as goal

abbrev pub invariant-loop-option : goal.invariant-loop-option
invariant-loop-option l = bit_count l.self ≡ bit_count l.initial.self + 5 * l.option-index
