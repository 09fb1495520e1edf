use Rattle.std.proofs.Common.{◌≡◌, ◌+◌, ◌*◌}
use Rattle.made_files.specs.Lengths.{bit_count}
use Rattle.made_files.proofs.builder.Builder.put_names.Given as goal

abbrev pub invariant-loop-letter : goal.invariant-loop-letter
invariant-loop-letter l = bit_count l.self ≡ bit_count l.initial.self + 8 * l.letter-index
