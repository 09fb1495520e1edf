use Rattle.std.proofs.Common.{◌≡◌, ◌+◌}
use Rattle.made_files.specs.Lengths.{bit_count}
use Rattle.made_files.proofs.builder.Builder.put.Given as goal

abbrev pub invariant-loop-place : goal.invariant-loop-place
invariant-loop-place l = bit_count l.self ≡ bit_count l.initial.self + l.place
