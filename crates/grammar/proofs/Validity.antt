-- That contents are valid has one proof at most, so it comes out of a ghost field whole.
use Rattle.std.proofs.Common.{ℕ, List, [], ◌∷◌}
use mathlib.Core.Logic.{∥∥₁_elim}
use mathlib.Core.HLevel.{⊥_prop}
use native.Mathlib.Nat.{ℕ_set}
use native.Mathlib.Bridge.{le_prop}
use Rattle.std.specs.List.{AllByRecursion}
use Rattle.grammar.specs.Contents.{Table, Contents, ValidTable, Valid}

pub all_prop : {X : Type 0} (P : X → Type 0) → ((x : X) → IsProp (P x)) → (xs : List X) → IsProp (AllByRecursion P xs)
all_prop P one [] = λ a b t. tt
all_prop P one (x ∷ xs) = λ a b t. (one x a.0 b.0 t, all_prop P one xs a.1 b.1 t)

valid_table_prop : (sizes : List ℕ) (t : Table) → IsProp (ValidTable sizes t)
valid_table_prop sizes t = λ a b i. record {
  some = le_prop a.some b.some i;
  few = le_prop a.few b.few i;
  known = λ j h. le_prop (a.known j h) (b.known j h) i;
  rising = λ j k h l. le_prop (a.rising j k h l) (b.rising j k h l) i;
  long = λ r h. ℕ_set _ _ (a.long r h) (b.long r h) i;
  values = λ r j h l. le_prop (a.values r j h l) (b.values r j h l) i;
  apart = λ q r h l e. ⊥_prop (a.apart q r h l e) (b.apart q r h l e) i;
  short = le_prop a.short b.short i;
}

valid_prop : (c : Contents) → IsProp (Valid c)
valid_prop c = λ a b i. record {
  some = le_prop a.some b.some i;
  few = le_prop a.few b.few i;
  named = ℕ_set _ _ a.named b.named i;
  sized = all_prop _ (λ s. λ p q t. (le_prop p.0 q.0 t, le_prop p.1 q.1 t)) c.sizes a.sized b.sized i;
  tabled = le_prop a.tabled b.tabled i;
  tables = all_prop _ (valid_table_prop c.sizes) c.tables a.tables b.tables i;
  short = le_prop a.short b.short i;
}

pub valid_out : (c : Contents) → ∥ Valid c ∥₁ → Valid c
valid_out c h = ∥∥₁_elim h (valid_prop c) (λ v. v)
