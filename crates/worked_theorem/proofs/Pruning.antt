-- Propagation by taking values out that lack support.
use Rattle.std.proofs.Common.{◌≡◌, ℕ, zero, suc, ◌-◌, ◌%◌, ◌^◌, ◌<◌, ◌≤◌, Bool, true, cond, not, ◌&&◌, eqb, ltb, List, [], ◌∷◌, length, get_or, set, sym, ap, ◌∙◌, subst, inl, inr, arith}
use native.Mathlib.Nat.{zero-mod}
use Rattle.std.proofs.lemmas.List.{get_or_past}
use Rattle.std.proofs.lemmas.Bool.{cases_lt, cond_both, and_parts, not-true, ltb-true, eqb-true}
use Rattle.std.proofs.lemmas.Bool.Decides.{Decides-eqb, Decides-ltb, not_from_Decides}
use Rattle.grammar.specs.Contents.{Table, Contents}
use Rattle.values.specs.Members.{In}
use Rattle.values.proofs.Digits.{in_zero, no_values}
use Rattle.propagate.specs.Propagation.{LeavesNone}
use Rattle.propagate.specs.Sets.{placed, sets_of}
use Rattle.propagate.specs.Support.{Upheld, Closed, is_in}
use Rattle.propagate.proofs.Ends.{none_past}
use Rattle.trials.specs.Trials.{Narrows}
use Rattle.trials.proofs.SomePropagation.{Shrinks, none_out, more_out, weaker, one_out}
use Rattle.worked_theorem.proofs.Tests.{below, below_decides, same_row, same_row_decides, supports, supports_decides, closes, closes_decides}

-- a value of a set, at a place of a table's scope, without support
abbrev pub lacking : Table → ℕ → ℕ → List ℕ → Bool
lacking t j v now = is_in (get_or now (get_or t.scope j 0) 0) v && not (supports (placed now) t j v)

-- the value is taken out if it lacks support
abbrev pub tried : Table → ℕ → ℕ → List ℕ → List ℕ
tried t j v now = cond (lacking t j v now) (set now (get_or t.scope j 0) (get_or now (get_or t.scope j 0) 0 - 2 ^ v)) now

-- the first n values, at the first m places, of each table
abbrev pub tried_values : Table → ℕ → ℕ → List ℕ → List ℕ
tried_values t j zero now = now
tried_values t j (suc v) now = tried_values t j v (tried t j v now)

abbrev pub tried_places : Table → ℕ → ℕ → List ℕ → List ℕ
tried_places t n zero now = now
tried_places t n (suc j) now = tried_places t n j (tried_values t j n now)

abbrev pub swept : List Table → ℕ → List ℕ → List ℕ
swept [] n now = now
swept (t ∷ ts) n now = swept ts n (tried_places t n (length t.scope) now)

-- and again, so many times
abbrev pub pruned : List Table → ℕ → ℕ → List ℕ → List ℕ
pruned ts n zero now = now
pruned ts n (suc k) now = pruned ts n k (swept ts n now)

-- ---- nothing that closed sets have is taken out

shrinks_tried : (t : Table) (j v : ℕ) → j < length t.scope → (now : List ℕ) → Shrinks (Upheld t) now (tried t j v now)
shrinks_tried t j v place now =
    cond_both (lacking t j v now) (set now (get_or t.scope j 0) (get_or now (get_or t.scope j 0) 0 - 2 ^ v)) now (Shrinks (Upheld t) now)
    (λ e. let (p, q) = and_parts (is_in (get_or now (get_or t.scope j 0) 0) v) (not (supports (placed now) t j v)) e in
    one_out t j v now (record {
      place = place;
      member = (Decides-eqb _ 1).0 p;
      none = not_from_Decides (supports (placed now) t j v) (supports_decides (placed now) t j v) (not-true (supports (placed now) t j v) q);
    }))
    (λ _. none_out now)

shrinks_values : (t : Table) (j : ℕ) → j < length t.scope → (n : ℕ) (now : List ℕ) → Shrinks (Upheld t) now (tried_values t j n now)
shrinks_values t j l zero now = none_out now
shrinks_values t j l (suc v) now = more_out (shrinks_tried t j v l now) (shrinks_values t j l v (tried t j v now))

shrinks_places : (t : Table) (n m : ℕ) → m ≤ length t.scope → (now : List ℕ) → Shrinks (Upheld t) now (tried_places t n m now)
shrinks_places t n zero l now = none_out now
shrinks_places t n (suc j) l now = more_out (shrinks_values t j (omega arith) n now) (shrinks_places t n j (omega arith) (tried_values t j n now))

shrinks_swept : (ts : List Table) (n : ℕ) (now : List ℕ) → Shrinks (Closed ts) now (swept ts n now)
shrinks_swept [] n now = none_out now
shrinks_swept (t ∷ ts) n now =
    more_out (weaker (λ other d. d.0) (shrinks_places t n (length t.scope) (omega arith) now))
    (weaker (λ other d. d.1) (shrinks_swept ts n (tried_places t n (length t.scope) now)))

shrinks_pruned : (ts : List Table) (n k : ℕ) (now : List ℕ) → Shrinks (Closed ts) now (pruned ts n k now)
shrinks_pruned ts n zero now = none_out now
shrinks_pruned ts n (suc k) now = more_out (shrinks_swept ts n now) (shrinks_pruned ts n k (swept ts n now))

-- ---- arrays that give the options of the book values of theirs alone, and others none

abbrev pub exact : Contents → List ℕ → Bool
exact c array = below (length array) (λ x. eqb (get_or array x 0) (sets_of c array x))

exact_so : (c : Contents) (array : List ℕ) → exact c array ≡ true → (x : ℕ) → get_or array x 0 ≡ sets_of c array x
exact_so c array e x = elim (cases_lt x (length array)) [
  | inl l ↦ (below_decides (λ x. eqb (get_or array x 0) (sets_of c array x)) (λ x. get_or array x 0 ≡ sets_of c array x) (λ x. Decides-eqb (get_or array x 0) (sets_of c array x)) (length array)).0 e x l
  | inr g ↦ get_or_past array x 0 g ∙ sym (ap (λ n. n % 2 ^ get_or c.sizes x 0) (get_or_past array x 0 g) ∙ zero-mod (2 ^ get_or c.sizes x 0))
]

-- ---- an option has no value left

abbrev pub empties : Contents → ℕ → ℕ → ℕ → List ℕ → Bool
empties c n k x start = exact c start && (ltb x (length c.sizes) && eqb (get_or (pruned c.tables n k start) x 0) 0)

pub empties_so : (c : Contents) (n k x : ℕ) (start : List ℕ) → empties c n k x start ≡ true → LeavesNone c (sets_of c start)
empties_so c n k x start e =
    let (p, q) = and_parts (exact c start) (ltb x (length c.sizes) && eqb (get_or (pruned c.tables n k start) x 0) 0) e in
    let (l, z) = and_parts (ltb x (length c.sizes)) (eqb (get_or (pruned c.tables n k start) x 0) 0) q in (
      x,
      ltb-true x (length c.sizes) l,
      λ other inside closed v h.
          let kept = (shrinks_pruned c.tables n k start).keeps other (λ y w m. subst (λ s. In s w) (sym (exact_so c start p y)) (inside y w m)) closed x v h in
          in_zero v (subst (λ s. In s v) (eqb-true (get_or (pruned c.tables n k start) x 0) 0 z) kept),
    )

-- ---- every value left has support

abbrev pub filled : Contents → List ℕ → Bool
filled c array = below (length c.sizes) (λ x. ltb 0 (get_or array x 0))

abbrev pub narrowed : Contents → ℕ → ℕ → List ℕ → List ℕ → Bool
narrowed c n k start end =
    exact c start && (exact c end && (same_row (pruned c.tables n k start) end && (closes c.tables (sets_of c end) && (filled c end && eqb (length end) (length start)))))

module _ (c : Contents) (n k : ℕ) (start end : List ℕ) (e : narrowed c n k start end ≡ true) where
  abbrev tests : (exact c start ≡ true) × (exact c end ≡ true) × (same_row (pruned c.tables n k start) end ≡ true) × (closes c.tables (sets_of c end) ≡ true) × (filled c end ≡ true) × (eqb (length end) (length start) ≡ true)
  tests =
      let (p, f) = and_parts (exact c start) _ e in
      let (q, g) = and_parts (exact c end) _ f in
      let (r, h) = and_parts (same_row (pruned c.tables n k start) end) _ g in
      let (u, i) = and_parts (closes c.tables (sets_of c end)) _ h in
      let (w, j) = and_parts (filled c end) _ i in
      (p, q, r, u, w, j)

  shrinks : Shrinks (Closed c.tables) start end
  shrinks = subst (Shrinks (Closed c.tables) start) ((same_row_decides (pruned c.tables n k start) end).0 tests.2) (shrinks_pruned c.tables n k start)

  at_start : (x : ℕ) → get_or start x 0 ≡ sets_of c start x
  at_start = exact_so c start tests.0

  at_end : (x : ℕ) → get_or end x 0 ≡ sets_of c end x
  at_end = exact_so c end tests.1

  none_at : (array : List ℕ) (x : ℕ) → length c.sizes ≤ x → sets_of c array x ≡ 0
  none_at array x g = no_values (sets_of c array x) (λ v. none_past c array x v g)

  pub narrowed_so : Narrows c start end
  narrowed_so = record {
    propagated = record {
      largest = record {
        inside = λ x v h. subst (λ s. In s v) (at_start x) (shrinks.smaller x v (subst (λ s. In s v) (sym (at_end x)) h));
        closed = (closes_decides c.tables (sets_of c end)).0 tests.3;
        largest = λ other inside closed x v h. subst (λ s. In s v) (at_end x) (shrinks.keeps other (λ y w m. subst (λ s. In s w) (sym (at_start y)) (inside y w m)) closed x v h);
      };
      some = (below_decides (λ x. ltb 0 (get_or end x 0)) (λ x. 0 < get_or end x 0) (λ x. Decides-ltb 0 (get_or end x 0)) (length c.sizes)).0 tests.4;
      exact = λ x _. at_end x;
      rest = λ x g. at_end x ∙ none_at end x g ∙ sym (none_at start x g) ∙ sym (at_start x);
    };
    long = eqb-true (length end) (length start) tests.5;
  }
