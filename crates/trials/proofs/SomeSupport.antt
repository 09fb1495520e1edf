-- Whether every value has support.
use Rattle.std.proofs.Common.{◌≡◌, ℕ, ◌/◌, ◌%◌, ◌^◌, ◌<◌, ◌⊎◌, List, [], length, get_or, sym, refl, ◌∙◌, subst, inl, inr, arith}
use Rattle.std.proofs.ByRecursion.{All-from_get_or}
use Rattle.std.proofs.lemmas.Bool.{cases_eq, cases_Bool, true≢false}
use Rattle.grammar.specs.Contents.{Table}
use Rattle.values.specs.Members.{In}
use Rattle.values.proofs.Digits.{in_ge, lt_pow}
use Rattle.propagate.specs.Sets.{Sets}
use Rattle.propagate.specs.Support.{Live, Support, Upheld, Closed, is_live}
use Rattle.propagate.proofs.Living.{is_live_decides}
use Rattle.trials.proofs.Choosing.{all_or_some}

abbrev pub blank : Table
blank = record { scope = []; rows = [] }

-- a value of the place j that has no support
pub record Lacks (t : Table) (sets : Sets) (j v : ℕ) : Type 0 where
  pub place : j < length t.scope
  pub member : In (sets (get_or t.scope j 0)) v
  pub none : Support sets t j v → ⊥

live_or_not : (sets : Sets) (scope row : List ℕ) → Live sets scope row ⊎ (Live sets scope row → ⊥)
live_or_not sets scope row = elim (cases_Bool (is_live sets scope row)) [
  | inl e ↦ inl ((is_live_decides sets scope row).0 e)
  | inr e ↦ inr (λ h. true≢false (sym ((is_live_decides sets scope row).1 h) ∙ e))
]

module _ (t : Table) (sets : Sets) where
  abbrev Holds : ℕ → ℕ → ℕ → Type 0
  Holds j v r = Live sets t.scope (get_or t.rows r []) × (get_or (get_or t.rows r []) j 0 ≡ v)

  holds_or_not : (j v r : ℕ) → (Holds j v r → ⊥) ⊎ Holds j v r
  holds_or_not j v r = elim (cases_eq (get_or (get_or t.rows r []) j 0) v) [
    | inl e ↦ elim (live_or_not sets t.scope (get_or t.rows r [])) [ inl alive ↦ inr (alive, e) | inr dead ↦ inl (λ h. dead h.0) ]
    | inr ne ↦ inl (λ h. ne h.1)
  ]

  support_or_not : (j v : ℕ) → Support sets t j v ⊎ (Support sets t j v → ⊥)
  support_or_not j v = elim (all_or_some (λ r. Holds j v r → ⊥) (Holds j v) (length t.rows) (λ r l. holds_or_not j v r)) [
    | inl none ↦ inr (λ (row, (r, l, e), alive, at). none r l (subst (λ row. Live sets t.scope row × (get_or row j 0 ≡ v)) (sym e) (alive, at)))
    | inr h ↦ inl (get_or t.rows h.0 [], (h.0, h.1, refl), h.2.0, h.2.1)
  ]

  in_or_not : (s v : ℕ) → In s v ⊎ (In s v → ⊥)
  in_or_not s v = cases_eq (s / 2 ^ v % 2) 1

  place_or_not : (j : ℕ) → j < length t.scope → ((v : ℕ) → In (sets (get_or t.scope j 0)) v → Support sets t j v) ⊎ ((v : ℕ) × Lacks t sets j v)
  place_or_not j l = elim (all_or_some (λ v. In s v → Support sets t j v) (Lacks t sets j) s each) [
    | inl all ↦ inl (λ v h. all v (omega (arith, in_ge s v h, lt_pow v)) h)
    | inr q ↦ inr (q.0, q.2)
  ]
    where
      s : ℕ
      s = sets (get_or t.scope j 0)

      each : (v : ℕ) → v < s → (In s v → Support sets t j v) ⊎ Lacks t sets j v
      each v b = elim (in_or_not s v) [
        | inr out ↦ inl (λ h. absurd (out h))
        | inl h ↦ elim (support_or_not j v) [ inl up ↦ inl (λ _. up) | inr none ↦ inr record { place = l; member = h; none = none } ]
      ]

  upheld_or_not : Upheld t sets ⊎ ((j : ℕ) × (v : ℕ) × Lacks t sets j v)
  upheld_or_not = elim (all_or_some (λ j. (v : ℕ) → In (sets (get_or t.scope j 0)) v → Support sets t j v) (λ j. (v : ℕ) × Lacks t sets j v) (length t.scope) place_or_not) [
    | inl all ↦ inl (λ j v l. all j l v)
    | inr q ↦ inr (q.0, q.2.0, q.2.1)
  ]

pub closed_or_not : (tables : List Table) (sets : Sets) → Closed tables sets ⊎ ((i : ℕ) × (i < length tables) × ((j : ℕ) × (v : ℕ) × Lacks (get_or tables i blank) sets j v))
closed_or_not tables sets = elim (all_or_some (λ i. Upheld (get_or tables i blank) sets) (λ i. (j : ℕ) × (v : ℕ) × Lacks (get_or tables i blank) sets j v) (length tables) (λ i l. upheld_or_not (get_or tables i blank) sets)) [
  | inl all ↦ inl (All-from_get_or (λ t. Upheld t sets) tables blank all)
  | inr q ↦ inr q
]
