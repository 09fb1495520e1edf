use Rattle.std.proofs.Common.{◌≡◌, reverse, take}
use Rattle.store.specs.Ring.{recent}
use Rattle.store_tests.proofs.rings.told.Given as goal

abbrev pub invariant-loop-one : goal.invariant-loop-one
invariant-loop-one l = recent l.ring ≡ take 64 (reverse (take l.one-index l.boxes))
