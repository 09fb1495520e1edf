use Rattle.std.proofs.Common.{◌≡◌, ◌+◌, ◌*◌}
use Rattle.made_files.specs.Lengths.{bit_count}
use Rattle.made_files.proofs.builder.Builder.put_row.Given as goal

abbrev pub invariant-loop-value : goal.invariant-loop-value
invariant-loop-value l = bit_count l.self ≡ bit_count l.initial.self + 5 * l.value-index
