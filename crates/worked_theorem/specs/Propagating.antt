-- Propagation in the sample book.
use Rattle.std.specs.Prelude.{[], ◌∷◌}
use Rattle.propagate.specs.Propagation.{Ends}
use Rattle.propagate.specs.declared.outcome.Outcome.TheVariants.{Narrowed, Emptied}
use Rattle.worked_theorem.specs.Books.{array_of, sample}

pub record Propagates : Type 0 where
  -- with the gate cut to its last value, the divider and the stand keep their second value alone
  pub gate_cut : Ends sample (array_of (4 ∷ 3 ∷ 3 ∷ [])) Narrowed (array_of (4 ∷ 2 ∷ 2 ∷ []))
  -- with the stand cut to its first value besides, an option keeps none
  pub stand_cut_too : Ends sample (array_of (4 ∷ 3 ∷ 1 ∷ [])) Emptied (array_of (4 ∷ 3 ∷ 1 ∷ []))
