-- A round over the tables.
use Rattle.std.proofs.Common.{◌≡◌, ℕ, zero, suc, ◌+◌, ◌≤◌, min, List, [], ◌∷◌, ◌++◌, length, get_or, sym, refl, ◌∙◌, subst, inl, inr, arith}
use lib.Bits.{bit_or}
use Rattle.std.proofs.ByRecursion.{All-push, All-weaker}
use Rattle.grammar.specs.Contents.{Table, Contents}
use Rattle.values.specs.Members.{In}
use Rattle.propagate.specs.Sets.{Sets, placed}
use Rattle.propagate.specs.Support.{Mentions, Upheld, Closed}
use Rattle.propagate.specs.Propagation.{Avoids, Settled}
use Rattle.propagate.specs.Steps.{Cut, Revised}
use Rattle.values.proofs.Digits.{in_either, in_or, in_zero, no_values}
use Rattle.propagate.proofs.Cuts.{upheld_like}

-- the round after the tables `done`
pub record Rounding (c : Contents) (before : List ℕ) (done : List Table) (now : List ℕ) (changed : ℕ) : Type 0 where
  pub cut : Cut (length c.sizes) (Closed c.tables) before now changed
  pub settled : Settled done (placed now) changed

pub rounding_none : (c : Contents) (before : List ℕ) → Rounding c before [] before 0
rounding_none c before = record {
  cut = record { smaller = λ x v h. h; keeps = λ other h k. h; same = λ x h. refl; known = λ x h. absurd (in_zero x h); less = omega arith };
  settled = tt;
}

least : (a b : ℕ) → bit_or a b ≡ 0 → (a ≡ 0) × (b ≡ 0)
least a b e = (
  no_values a (λ v h. in_zero v (subst (λ n. In n v) e (in_or a b v (inl h)))),
  no_values b (λ v h. in_zero v (subst (λ n. In n v) e (in_or a b v (inr h)))),
)

-- two steps cost at least one where either does
both_less : (a b : ℕ) → min (bit_or a b) 1 ≤ min a 1 + min b 1
both_less zero zero = go (bit_or zero zero) refl
  where
    go : (n : ℕ) → bit_or zero zero ≡ n → min n 1 ≤ min zero 1 + min zero 1
    go n e = omega arith
both_less zero (suc b) = omega arith
both_less (suc a) b = omega arith

module _ (c : Contents) (before : List ℕ) (done : List Table) (now : List ℕ) (changed : ℕ) (old : Rounding c before done now changed) (t : Table) where
  -- a table that has no pending option, nor one that changed, is left alone
  pub rounding_skip : (pending : ℕ) → (Avoids t.scope pending → Upheld t (placed before)) → (((x : ℕ) × Mentions t.scope x × In (bit_or pending changed) x) → ⊥)
      → Rounding c before (done ++ t ∷ []) now changed
  rounding_skip pending start clear = record {
    cut = old.cut;
    settled = All-push (λ t. Avoids t.scope changed → Upheld t (placed now)) done t old.settled (λ _.
        upheld_like t (placed before) (placed now) (λ j l. sym (old.cut.same (get_or t.scope j 0) (λ m. clear (get_or t.scope j 0, (j, l, refl), in_or pending changed (get_or t.scope j 0) (inr m)))))
        (start (λ x m h. clear (x, m, in_or pending changed x (inl h)))));
  }

  module _ (next : List ℕ) (more : ℕ) (rev : Revised (length c.sizes) t now next more) (one : (sets : Sets) → Closed c.tables sets → Upheld t sets) where
    pub cut_more : Cut (length c.sizes) (Closed c.tables) before next (bit_or changed more)
    cut_more = record {
      smaller = λ x v h. old.cut.smaller x v (rev.cut.smaller x v h);
      keeps = λ other h k. rev.cut.keeps other (old.cut.keeps other h k) (one other k);
      same = λ x h. rev.cut.same x (λ m. h (in_or changed more x (inr m))) ∙ old.cut.same x (λ m. h (in_or changed more x (inl m)));
      known = λ x h. elim (in_either changed more x h) [ inl m ↦ old.cut.known x m | inr m ↦ rev.cut.known x m ];
      less = omega (arith, old.cut.less, rev.cut.less, both_less changed more);
    }

    pub rounding_revise : Rounding c before (done ++ t ∷ []) next (bit_or changed more)
    rounding_revise = record {
      cut = cut_more;
      settled = All-push (λ t. Avoids t.scope (bit_or changed more) → Upheld t (placed next)) done t
          (All-weaker (λ t. Avoids t.scope changed → Upheld t (placed now)) (λ t. Avoids t.scope (bit_or changed more) → Upheld t (placed next))
          (λ u up clear.
          upheld_like u (placed now) (placed next) (λ j l. sym (rev.cut.same (get_or u.scope j 0) (λ m. clear (get_or u.scope j 0) (j, l, refl) (in_or changed more (get_or u.scope j 0) (inr m)))))
          (up (λ x m h. clear x m (in_or changed more x (inl h))))) done old.settled)
          (λ clear. rev.upheld (no_values more (λ x h. clear x (rev.within x h) (in_or changed more x (inr h)))));
    }
