-- Steps of propagation.
use Rattle.std.proofs.Common.{◌≡◌, ℕ, ◌+◌, ◌^◌, ◌<◌, ◌≤◌, List, [], ◌∷◌, ◌++◌, length, get_or, set, sym, refl, ◌∙◌, subst, inl, inr, arith, pow_pos}
use lib.Bits.{bit_and, bit_or, and_le_l}
use Rattle.std.specs.List.{AllByRecursion}
use Rattle.std.proofs.lemmas.List.{get_or-set_same, get_or-set_other}
use Rattle.std.proofs.lemmas.List.Sums.{sum_by-set}
use Rattle.std.proofs.lemmas.Bool.{cases_eq, cases_lt}
use Rattle.grammar.specs.Contents.{Table}
use Rattle.values.specs.Members.{In}
use Rattle.propagate.specs.Sets.{Sets, Inside, placed}
use Rattle.propagate.specs.Support.{Mentions, Support, Upheld}
use Rattle.propagate.specs.Steps.{Cut, Revised, Collects}
use Rattle.values.proofs.Digits.{in_both, in_and, in_either, in_or, in_one, in_one_only, in_zero, in_ge}
use Rattle.propagate.proofs.Living.{live_inside, live_like}

pub support_inside : (a b : Sets) (t : Table) (j v : ℕ) → Inside a b → Support a t j v → Support b t j v
support_inside a b t j v h (row, at, alive, e) = (row, at, live_inside a b t.scope row h alive, e)

-- sets that agree on the scope
pub upheld_like : (t : Table) (a b : Sets) → ((j : ℕ) → j < length t.scope → a (get_or t.scope j 0) ≡ b (get_or t.scope j 0)) → Upheld t a → Upheld t b
upheld_like t a b same up j v l h =
    let s = up j v l (subst (λ n. In n v) (sym (same j l)) h) in
    (s.0, s.1, live_like a b t.scope s.0 (λ k w m. subst (λ n. In n w) (same k m)) s.2, s.3)

-- what the loop over the places of a table's scope has before the place j
pub record Cutting (options : ℕ) (t : Table) (seen before : List ℕ) (j : ℕ) (now : List ℕ) (changed : ℕ) : Type 0 where
  pub cut : Cut options (Upheld t) before now changed
  pub within : (x : ℕ) → In changed x → Mentions t.scope x
  pub held : changed ≡ 0 → (k v : ℕ) → k < j → In (placed before (get_or t.scope k 0)) v → In (get_or seen k 0) v

module _ (options : ℕ) (t : Table) (seen before : List ℕ) where
  pub cutting_none : Cutting options t seen before 0 before 0
  cutting_none = record {
    cut = record { smaller = λ x v h. h; keeps = λ other h c. h; same = λ x h. refl; known = λ x h. absurd (in_zero x h); less = omega arith };
    within = λ x h. absurd (in_zero x h);
    held = λ e k v l. absurd (omega arith);
  }

  module _ (j : ℕ) (now : List ℕ) (changed : ℕ) (old : Cutting options t seen before j now changed) where
    pub cutting_same : bit_and (get_or now (get_or t.scope j 0) 0) (get_or seen j 0) ≡ get_or now (get_or t.scope j 0) 0 → Cutting options t seen before (j + 1) now changed
    cutting_same is = record {
      cut = old.cut;
      within = old.within;
      held = λ e k v l h. elim (cases_lt k j) [
        | inl lt ↦ old.held e k v lt h
        | inr ge ↦
            let at : k ≡ j = omega arith in
            let as_before = old.cut.same (get_or t.scope k 0) (λ m. in_zero (get_or t.scope k 0) (subst (λ n. In n (get_or t.scope k 0)) e m)) in
            let here : In (get_or now (get_or t.scope j 0) 0) v = subst (λ k. In (get_or now (get_or t.scope k 0) 0) v) at (subst (λ s. In s v) (sym as_before) h) in
            subst (λ k. In (get_or seen k 0) v) (sym at) (in_both (get_or now (get_or t.scope j 0) 0) (get_or seen j 0) v (subst (λ s. In s v) (sym is) here)).1
      ];
    }

    -- the set of the option at the place j, cut to what was seen
    pub cutting_cut : j < length t.scope → get_or t.scope j 0 < length now → get_or t.scope j 0 < options
        → Collects (placed before) t seen
        → (bit_and (get_or now (get_or t.scope j 0) 0) (get_or seen j 0) ≡ get_or now (get_or t.scope j 0) 0 → ⊥)
        → Cutting options t seen before (j + 1) (set now (get_or t.scope j 0) (bit_and (get_or now (get_or t.scope j 0) 0) (get_or seen j 0))) (bit_or changed (2 ^ get_or t.scope j 0))
    cutting_cut jn xin low coll ne = record {
      cut = record {
        smaller = λ x v h. old.cut.smaller x v (back x v h);
        keeps = λ other inside up x v h. elim (cases_eq x y) [
          | inl e ↦
              let hy : In (other y) v = subst (λ x. In (other x) v) e h in
              let sup = support_inside other (placed before) t j v inside (up j v jn hy) in
              subst (λ x. In (get_or (set now y s) x 0) v) (sym e)
              (subst (λ m. In m v) (sym (get_or-set_same now y s 0 xin)) (in_and (get_or now y 0) (get_or seen j 0) v (old.cut.keeps other inside up y v hy) (coll.whole j v jn sup)))
          | inr e ↦ subst (λ m. In m v) (sym (get_or-set_other now y x s 0 e)) (old.cut.keeps other inside up x v h)
        ];
        same = λ x h.
            let other : x ≡ y → ⊥ = λ e. h (subst (In (bit_or changed (2 ^ y))) (sym e) marked) in
            get_or-set_other now y x s 0 other ∙ old.cut.same x (λ m. h (in_or changed (2 ^ y) x (inl m)));
        known = λ x h. elim (in_either changed (2 ^ y) x h) [ inl m ↦ old.cut.known x m | inr m ↦ subst (λ x. x < options) (sym (in_one_only y x m)) low ];
        less = omega (arith, ne, old.cut.less, sum_by-set (λ x. x) now y s 0 xin, and_le_l (get_or now y 0) (get_or seen j 0));
      };
      within = λ x h. elim (in_either changed (2 ^ y) x h) [ inl m ↦ old.within x m | inr m ↦ (j, jn, sym (in_one_only y x m)) ];
      held = λ e. absurd (omega (arith, in_ge (bit_or changed (2 ^ y)) y marked, pow_pos y));
    }
      where
        y : ℕ
        y = get_or t.scope j 0

        s : ℕ
        s = bit_and (get_or now y 0) (get_or seen j 0)

        marked : In (bit_or changed (2 ^ y)) y
        marked = in_or changed (2 ^ y) y (inr (in_one y))

        back : (x v : ℕ) → In (get_or (set now y s) x 0) v → In (get_or now x 0) v
        back x v h = elim (cases_eq x y) [
          | inl e ↦ subst (λ x. In (get_or now x 0) v) (sym e) (in_both (get_or now y 0) (get_or seen j 0) v (subst (λ m. In m v) (get_or-set_same now y s 0 xin) (subst (λ x. In (get_or (set now y s) x 0) v) e h))).0
          | inr e ↦ subst (λ m. In m v) (get_or-set_other now y x s 0 e) h
        ]

  pub cutting_all : (j : ℕ) (now : List ℕ) (changed : ℕ) → length t.scope ≤ j → Collects (placed before) t seen
      → Cutting options t seen before j now changed → Revised options t before now changed
  cutting_all j now changed end coll all = record {
    cut = all.cut;
    within = all.within;
    upheld = λ e.
        upheld_like t (placed before) (placed now) (λ k l. sym (all.cut.same (get_or t.scope k 0) (λ m. in_zero (get_or t.scope k 0) (subst (λ n. In n (get_or t.scope k 0)) e m))))
        (λ k v l h. coll.sound k v l (all.held e k v (omega arith) h));
  }

pub all_parts : {X : Type 0} (P : X → Type 0) (xs : List X) (y : X) → AllByRecursion P (xs ++ y ∷ []) → AllByRecursion P xs × P y
all_parts P [] y h = (tt, h.0)
all_parts P (x ∷ xs) y h = let r = all_parts P xs y h.1 in ((h.0, r.0), r.1)
