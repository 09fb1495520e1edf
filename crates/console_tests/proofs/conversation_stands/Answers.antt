use Rattle.std.proofs.Common.{refl}
use Rattle.std.specs.Fmt.{digits}
use Rattle.console_tests.proofs.conversation_stands.Goals as goal

pub returns : goal.returns
unfolding digits
returns c = record {
  reads = (refl, refl, refl, refl, refl, refl, refl, refl, refl);
  prints = (refl, refl, refl, refl, refl, refl, refl, refl);
}
