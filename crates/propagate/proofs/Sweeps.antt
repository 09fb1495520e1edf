-- Round after round.
use Rattle.std.proofs.Common.{◌≡◌, ℕ, ◌<◌, ◌≤◌, Bool, true, false, not, List, length, get_or, Decides, MatchBool, refl, ◌∙◌, subst, inl, inr, arith}
use Rattle.std.proofs.ByRecursion.{All-weaker}
use Rattle.std.proofs.lemmas.Bool.{cases_eq, false≢true}
use Rattle.grammar.specs.Contents.{Contents}
use Rattle.values.specs.Members.{In}
use Rattle.propagate.specs.Sets.{Sets, Inside, placed}
use Rattle.propagate.specs.Support.{Upheld, Closed}
use Rattle.propagate.specs.Propagation.{LeavesNone, Avoids, Settled}
use Rattle.propagate.specs.Steps.{Rounded, Reached}
use Rattle.values.proofs.Digits.{in_zero}

-- nothing was put in, nothing that closed sets have was taken away, and these options are left to look at
pub record Sweeping (c : Contents) (before now : List ℕ) (left : ℕ) : Type 0 where
  pub smaller : Inside (placed now) (placed before)
  pub keeps : (other : Sets) → Inside other (placed before) → Closed c.tables other → Inside other (placed now)
  pub rest : (x : ℕ) → length c.sizes ≤ x → get_or now x 0 ≡ get_or before x 0
  pub settled : Settled c.tables (placed now) left

pub sweeping_none : (c : Contents) (before : List ℕ) (pending : ℕ) → Settled c.tables (placed before) pending → Sweeping c before before pending
sweeping_none c before pending h = record { smaller = λ x v h. h; keeps = λ other h k. h; rest = λ x l. refl; settled = h }

-- an option without a value stays so
module _ (c : Contents) (before now : List ℕ) (keeps : (other : Sets) → Inside other (placed before) → Closed c.tables other → Inside other (placed now)) where
  pub leaves_none : (x : ℕ) → x < length c.sizes → get_or now x 0 ≡ 0 → LeavesNone c (placed before)
  leaves_none x l e = (x, l, λ other h k v m. in_zero v (subst (λ s. In s v) e (keeps other h k x v m)))

some_from : (now : List ℕ) (options : ℕ) → Decides false ((x : ℕ) × (x < options) × (get_or now x 0 ≡ 0)) → (x : ℕ) → x < options → 0 < get_or now x 0
some_from now options d x l = elim (cases_eq (get_or now x 0) 0) [ inl z ↦ absurd (false≢true (d.1 (x, l, z))) | inr nz ↦ omega arith ]

module _ (c : Contents) (before now : List ℕ) (left : ℕ) (old : Sweeping c before now left) (options : ℕ) (all : options ≡ length c.sizes) where
  module _ (next : List ℕ) (changed : ℕ) (round : Rounded c now next changed) where
    pub keeps_more : (other : Sets) → Inside other (placed before) → Closed c.tables other → Inside other (placed next)
    keeps_more other h k = round.cut.keeps other (old.keeps other h k) k

    pub sweeping_more : (empty : Bool) → Decides empty ((x : ℕ) × (x < options) × (get_or next x 0 ≡ 0)) → empty ≡ false → Sweeping c before next changed
    sweeping_more empty d e = record {
      smaller = λ x v h. old.smaller x v (round.cut.smaller x v h);
      keeps = keeps_more;
      rest = λ x l. round.cut.same x (λ m. omega (arith, round.cut.known x m)) ∙ old.rest x l;
      settled = round.settled (λ x l. some_from next options (subst (λ b. Decides b ((x : ℕ) × (x < options) × (get_or next x 0 ≡ 0))) e d) x (omega arith));
    }

    pub round_empties : (empty : Bool) → Decides empty ((x : ℕ) × (x < options) × (get_or next x 0 ≡ 0)) → empty ≡ true → LeavesNone c (placed before)
    round_empties empty d e = let r = d.0 e in leaves_none c before next keeps_more r.0 (omega (arith, r.1)) r.2

  pub ends : left ≡ 0 → (empty : Bool) → Decides empty ((x : ℕ) × (x < options) × (get_or now x 0 ≡ 0)) → MatchBool (not empty) (Reached c before now) (LeavesNone c (placed before))
  ends z true d = let r = d.0 refl in leaves_none c before now old.keeps r.0 (omega (arith, r.1)) r.2
  ends z false d = record {
    largest = record {
      inside = old.smaller;
      closed = All-weaker (λ t. Avoids t.scope left → Upheld t (placed now)) (λ t. Upheld t (placed now)) (λ t up. up (λ x m h. in_zero x (subst (λ n. In n x) z h))) c.tables old.settled;
      largest = old.keeps;
    };
    some = λ x l. some_from now options d x (omega arith);
    rest = old.rest;
  }
