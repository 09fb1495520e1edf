use Rattle.std.proofs.Common.{◌≡◌, ◌^◌, ◌<◌, ◌≤◌, [], length, drop}
use Rattle.console.proofs.Passing.{pass}
use Rattle.console.proofs.reading.read_numbers.Given as goal

abbrev pub invariant-loop-byte : goal.invariant-loop-byte
invariant-loop-byte l =
    (pass l.numbers.items l.value l.digits (drop l.byte-index l.text) ≡ pass [] 0 0 l.text)
    × (length l.numbers.items ≤ 2) × (l.digits ≤ 7) × (l.value < 10 ^ l.digits)
