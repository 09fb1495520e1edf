-- Propagation and the fits of a book.
use Rattle.std.proofs.Common.{◌≡◌, ℕ, suc, ◌^◌, ◌<◌, List, [], ◌∷◌, map, length, get_or, sym, refl, ◌∙◌, subst, ap₂, inl, inr, arith}
use Rattle.std.specs.List.{AllByRecursion}
use Rattle.std.proofs.lemmas.List.{get_or-map, get_or_past, length-map, ext_get_or}
use Rattle.std.proofs.lemmas.Bool.{cases_lt}
use Rattle.grammar.specs.Contents.{Table, Contents, Listed, on_scope, Fit, ValidTable, Valid}
use Rattle.values.specs.Members.{In}
use Rattle.propagate.specs.Sets.{Sets, Inside, sets_of}
use Rattle.propagate.specs.Support.{Live, Upheld, Closed}
use Rattle.propagate.specs.Propagation.{Propagated, LeavesNone, Ends}
use Rattle.propagate.specs.Laws.{Within, LosesNoFit, EndsOneWay, EmptiedWhereEmpty, SingleSetsFit}
use Rattle.propagate.specs.declared.outcome.Outcome.{Outcome}
use Rattle.propagate.specs.declared.outcome.Outcome.TheVariants.{Narrowed, Emptied}
use Rattle.values.proofs.Digits.{in_one, in_one_only, in_zero, in_mod, no_values, same_from_values}

-- the sets of one value each
abbrev single : List ℕ → Sets
single values x = get_or (map (λ v. 2 ^ v) values) x 0

single_at : (values : List ℕ) (x : ℕ) → x < length values → single values x ≡ 2 ^ get_or values x 0
single_at values x l = get_or-map (λ v. 2 ^ v) values x 0 0 l

single_has : (values : List ℕ) (x : ℕ) → x < length values → In (single values x) (get_or values x 0)
single_has values x l = subst (λ s. In s (get_or values x 0)) (sym (single_at values x l)) (in_one (get_or values x 0))

single_only : (values : List ℕ) (x v : ℕ) → In (single values x) v → (x < length values) × (v ≡ get_or values x 0)
single_only values x v h = elim (cases_lt x (length values)) [
  | inl l ↦ (l, in_one_only (get_or values x 0) v (subst (λ s. In s v) (single_at values x l) h))
  | inr g ↦ absurd (in_zero v (subst (λ s. In s v) (get_or_past (map (λ v. 2 ^ v) values) x 0 (omega (arith, length-map values (λ v. 2 ^ v)))) h))
]

-- the values that are given to a scope are a live row of any sets that have them
pub live_on : (sets : Sets) (values scope : List ℕ) → ((j : ℕ) → j < length scope → In (sets (get_or scope j 0)) (get_or values (get_or scope j 0) 0)) → Live sets scope (on_scope values scope)
live_on sets values [] h = tt
live_on sets values (x ∷ scope) h = (h 0 (omega arith), live_on sets values scope (λ j l. h (suc j) (omega arith)))

single_upheld : (values sizes : List ℕ) → length values ≡ length sizes → (t : Table) → ValidTable sizes t → Listed t.rows (on_scope values t.scope) → Upheld t (single values)
single_upheld values sizes e t ok at j v l h = (
  on_scope values t.scope,
  at,
  live_on (single values) values t.scope (λ k m. single_has values (get_or t.scope k 0) (omega (arith, ok.known k m))),
  get_or-map (λ x. get_or values x 0) t.scope j 0 0 l ∙ sym (single_only values (get_or t.scope j 0) v h).1,
)

single_closed : (values sizes : List ℕ) → length values ≡ length sizes → (tables : List Table) → AllByRecursion (ValidTable sizes) tables → AllByRecursion (λ t. Listed t.rows (on_scope values t.scope)) tables → Closed tables (single values)
single_closed values sizes e [] ok at = tt
single_closed values sizes e (t ∷ ts) ok at = (single_upheld values sizes e t ok.0 at.0, single_closed values sizes e ts ok.1 at.1)

module _ (c : Contents) (ok : Valid c) (start values : List ℕ) (fit : Fit c values) (within : Within c start values) where
  inside_start : Inside (single values) (sets_of c start)
  inside_start x v h = let o = single_only values x v h in subst (In (sets_of c start x)) (sym o.1) (within x (omega (arith, fit.each, o.0)))

  closed : Closed c.tables (single values)
  closed = single_closed values c.sizes fit.each c.tables ok.tables fit.listed

  has : (x : ℕ) → x < length c.sizes → In (single values x) (get_or values x 0)
  has x l = single_has values x (omega (arith, fit.each))

  keeps : (end : List ℕ) (o : Outcome) → Ends c start o end → (o ≡ Narrowed) × Within c end values
  keeps end Narrowed p = (refl, λ x l. p.largest.largest (single values) inside_start closed x (get_or values x 0) (has x l))
  keeps end Emptied p = absurd (p.0.2 (single values) inside_start closed (get_or values p.0.0 0) (has p.0.0 p.0.1))

pub loses_no_fit : LosesNoFit
loses_no_fit c ok start end o p values fit within = keeps c ok start values fit within end o p

-- ---- one way only

module _ (c : Contents) (start a : List ℕ) (p : Propagated c start a) where
  pub never_none : LeavesNone c (sets_of c start) → ⊥
  never_none (x, l, none) =
      let e = no_values (sets_of c a x) (none (sets_of c a) p.largest.inside p.largest.closed) in
      omega (arith, p.some x l, p.exact x l, e)

  module _ (b : List ℕ) (q : Propagated c start b) (long : length a ≡ length b) where
    same_at : (x : ℕ) → get_or a x 0 ≡ get_or b x 0
    same_at x = elim (cases_lt x (length c.sizes)) [
      | inl l ↦
          p.exact x l
          ∙ same_from_values (sets_of c a x) (sets_of c b x) (λ v. q.largest.largest (sets_of c a) p.largest.inside p.largest.closed x v) (λ v. p.largest.largest (sets_of c b) q.largest.inside q.largest.closed x v)
          ∙ sym (q.exact x l)
      | inr g ↦ p.rest x g ∙ sym (q.rest x g)
    ]

    pub same_array : a ≡ b
    same_array = ext_get_or 0 a b long (λ x l. same_at x)

pub ends_one_way : EndsOneWay
ends_one_way c start a b Narrowed Narrowed long p q = (refl, same_array c start a p b q long)
ends_one_way c start a b Narrowed Emptied long p q = absurd (never_none c start a p q.0)
ends_one_way c start a b Emptied Narrowed long p q = absurd (never_none c start b q p.0)
ends_one_way c start a b Emptied Emptied long p q = (refl, p.1 ∙ sym q.1)

pub emptied_where_empty : EmptiedWhereEmpty
emptied_where_empty c start end p = (
  λ (x, l, none). (x, l, no_values (end x) (none end p.inside p.closed)),
  λ (x, l, e). (x, l, λ other h k v m. in_zero v (subst (λ s. In s v) e (p.largest other h k x v m))),
)

-- ---- sets of one value each

-- the only live row
pub single_row : (sets : Sets) (values scope row : List ℕ) → ((j : ℕ) → j < length scope → sets (get_or scope j 0) ≡ 2 ^ get_or values (get_or scope j 0) 0) → Live sets scope row → row ≡ on_scope values scope
single_row sets values [] [] one h = refl
single_row sets values [] (v ∷ row) one h = absurd h
single_row sets values (x ∷ scope) [] one h = absurd h
single_row sets values (x ∷ scope) (v ∷ row) one h =
    ap₂ (λ w ws. w ∷ ws) (in_one_only (get_or values x 0) v (subst (λ s. In s v) (one 0 (omega arith)) h.0))
    (single_row sets values scope row (λ j l. one (suc j) (omega arith)) h.1)

single_listed : (sizes : List ℕ) (sets : Sets) (values : List ℕ) → ((x : ℕ) → x < length sizes → sets x ≡ 2 ^ get_or values x 0) → (tables : List Table) → AllByRecursion (ValidTable sizes) tables → Closed tables sets
    → AllByRecursion (λ t. Listed t.rows (on_scope values t.scope)) tables
single_listed sizes sets values one [] ok up = tt
single_listed sizes sets values one (t ∷ ts) ok up =
    let on-scope = λ (j : ℕ) (l : j < length t.scope). one (get_or t.scope j 0) (ok.0.known j l) in
    let first = ok.0.some in
    let s = up.0 0 (get_or values (get_or t.scope 0 0) 0) first (subst (λ n. In n (get_or values (get_or t.scope 0 0) 0)) (sym (on-scope 0 first)) (in_one _)) in
    (subst (Listed t.rows) (single_row sets values t.scope s.0 on-scope s.2) s.1, single_listed sizes sets values one ts ok.1 up.1)

pub single_sets_fit : SingleSetsFit
single_sets_fit c ok array values long one closed = record {
  each = long;
  within = λ x l. (in_mod (get_or array x 0) (get_or c.sizes x 0) (get_or values x 0) (subst (λ n. In n (get_or values x 0)) (sym (one x l)) (in_one _))).1;
  listed = single_listed c.sizes (sets_of c array) values one c.tables ok.tables closed;
}
