use Rattle.std.proofs.Common.{◌≡◌, ◌+◌, ◌*◌}
use Rattle.made_files.specs.Lengths.{bit_count}
use Rattle.made_files.proofs.builder.Builder.put_options.Given as goal

abbrev pub invariant-loop-size : goal.invariant-loop-size
invariant-loop-size l = bit_count l.self ≡ bit_count l.initial.self + 10 * l.size-index
