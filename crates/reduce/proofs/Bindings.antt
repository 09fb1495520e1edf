-- The options that tables bind.
use Rattle.std.proofs.Common.{◌≡◌, ℕ, zero, suc, ◌^◌, ◌<◌, ◌⊎◌, List, [], ◌∷◌, ◌++◌, length, get_or, sym, subst, inl, inr, arith}
use lib.Bits.{bit_or}
use Rattle.std.specs.List.{fold, AllByRecursion}
use Rattle.std.proofs.ByRecursion.{All-push}
use Rattle.grammar.specs.Contents.{Table, ValidTable}
use Rattle.values.specs.Members.{In}
use Rattle.propagate.specs.Sets.{Sets}
use Rattle.propagate.specs.Support.{Mentions}
use Rattle.values.proofs.Digits.{in_either, in_or, in_zero, in_one, in_one_only}
use Rattle.propagate.proofs.Living.{live_like}
use Rattle.propagate.proofs.Cuts.{all_parts}
use Rattle.reduce.specs.Universal.{Universal, Free}
use Rattle.reduce.specs.Steps.{Marks, Binds}

-- the options of the scope put in, one after another
pub marks_fold : (scope : List ℕ) (before : ℕ) → Marks before scope (fold (λ m x. bit_or m (2 ^ x)) before scope)
marks_fold [] before = record { only = λ x h. inl h; all = λ x h. elim h [ inl k ↦ k | inr m ↦ absurd (omega (arith, m.1)) ] }
marks_fold (y ∷ scope) before =
    let rest = marks_fold scope (bit_or before (2 ^ y)) in
    record {
      only = λ x h. elim (rest.only x h) [
        | inl k ↦ elim (in_either before (2 ^ y) x k) [ inl i ↦ inl i | inr one ↦ inr (0, omega arith, sym (in_one_only y x one)) ]
        | inr m ↦ inr (suc m.0, omega (arith, m.1), m.2)
      ];
      all = λ x h. rest.all x (elim h [ inl i ↦ inl (in_or before (2 ^ y) x (inl i)) | inr m ↦ put x m.0 m.1 m.2 ]);
    }
  where
    put : (x j : ℕ) → j < length (y ∷ scope) → get_or (y ∷ scope) j 0 ≡ x → In (bit_or before (2 ^ y)) x ⊎ Mentions scope x
    put x zero l e = inl (in_or before (2 ^ y) x (inr (subst (In (2 ^ y)) e (in_one y))))
    put x (suc j) l e = inr (j, omega arith, e)

pub binds_none : (sets : Sets) (bound : ℕ) → bound ≡ 0 → Binds sets [] bound
binds_none sets bound z = record { free = λ x h. tt; tied = λ x h f. in_zero x (subst (λ n. In n x) z h) }

-- ---- one more table

module _ (sets : Sets) (tables : List Table) (t : Table) (bound : ℕ) (old : Binds sets tables bound) where
  pub binds_universal : Universal sets t → Binds sets (tables ++ t ∷ []) bound
  binds_universal u = record {
    free = λ x h. All-push (λ t. Mentions t.scope x → Universal sets t) tables t (old.free x h) (λ _. u);
    tied = λ x h f. old.tied x h (all_parts (λ t. Mentions t.scope x → Universal sets t) tables t f).0;
  }

  -- all its options are bound already
  pub binds_known : (((x : ℕ) × Mentions t.scope x × (In bound x → ⊥)) → ⊥) → Binds sets (tables ++ t ∷ []) bound
  binds_known none = record {
    free = λ x h. All-push (λ t. Mentions t.scope x → Universal sets t) tables t (old.free x h) (λ m. absurd (none (x, m, h)));
    tied = λ x h f. old.tied x h (all_parts (λ t. Mentions t.scope x → Universal sets t) tables t f).0;
  }

  pub binds_marked : (Universal sets t → ⊥) → (marked : ℕ) → Marks bound t.scope marked → Binds sets (tables ++ t ∷ []) marked
  binds_marked not-u marked m = record {
    free = λ x h. All-push (λ t. Mentions t.scope x → Universal sets t) tables t (old.free x (λ k. h (m.all x (inl k)))) (λ k. absurd (h (m.all x (inr k))));
    tied = λ x h f.
        let parts = all_parts (λ t. Mentions t.scope x → Universal sets t) tables t f in
        elim (m.only x h) [ inl k ↦ old.tied x k parts.0 | inr k ↦ not-u (parts.1 k) ];
  }

-- ---- sets that agree on the options of the book

pub universal_like : (a b : Sets) (t : Table) → ((j : ℕ) → j < length t.scope → a (get_or t.scope j 0) ≡ b (get_or t.scope j 0)) → Universal a t → Universal b t
universal_like a b t same u row h = u row (live_like b a t.scope row (λ j v l. subst (λ n. In n v) (sym (same j l))) h)

pub free_like : (sizes : List ℕ) (a b : Sets) → ((x : ℕ) → x < length sizes → a x ≡ b x) → (x : ℕ) (tables : List Table) → AllByRecursion (ValidTable sizes) tables → Free a tables x → Free b tables x
free_like sizes a b same x [] ok f = tt
free_like sizes a b same x (t ∷ ts) ok f = (λ m. universal_like a b t (λ j l. same (get_or t.scope j 0) (ok.0.known j l)) (f.0 m), free_like sizes a b same x ts ok.1 f.1)
