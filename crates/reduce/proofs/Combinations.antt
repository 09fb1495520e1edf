-- A table of distinct rows has as many live rows as there are combinations just where every combination is a row.
use Rattle.std.proofs.Common.{◌≡◌, ℕ, zero, suc, ◌+◌, ◌*◌, ◌^◌, ◌<◌, Bool, List, [], ◌∷◌, map, length, get_or, Decides, count_by, filter, sym, refl, ap, ◌∙◌, subst, inl, inr, arith}
use Rattle.std.specs.List.{flat_map}
use Rattle.std.proofs.lemmas.List.{length-map}
use Rattle.std.proofs.lemmas.List.Sums.{length-filter, count_by-le-length}
use Rattle.std.proofs.lemmas.Bool.Decides.{Decides-like}
use Rattle.grammar.specs.Contents.{Table, Listed}
use Rattle.values.specs.Members.{In}
use Rattle.propagate.specs.Sets.{Sets}
use Rattle.propagate.specs.Support.{Live, is_live}
use Rattle.values.proofs.Digits.{in_lt}
use Rattle.propagate.proofs.Living.{is_live_decides}
use Rattle.reduce.specs.Universal.{Universal, ways}
use Rattle.reduce.proofs.Distinct.{Among, Distinct, no_longer, exhausts, among_kept, kept_among, distinct_kept, among_map, map_among, distinct_map, among_joined, joined_among, distinct_joined, length_joined}
use Rattle.reduce.proofs.Members.{members, among_members, members_in, members_distinct, length_members}

in_under : (s v : ℕ) → (w : ℕ) × (v ≡ 0 + w) × In s w → In s v
in_under s v (w, e, i) = subst (In s) (omega arith) i

head_same : (v w : ℕ) (b d : List ℕ) → ◌≡◌ {A = List ℕ} (v ∷ b) (w ∷ d) → v ≡ w
head_same v w b d e = cc

tail_same : (v w : ℕ) (b d : List ℕ) → ◌≡◌ {A = List ℕ} (v ∷ b) (w ∷ d) → b ≡ d
tail_same v w b d e = cc

-- ---- listed rows

listed_at : (rows : List (List ℕ)) (i : ℕ) (row : List ℕ) → i < length rows → get_or rows i [] ≡ row → Among row rows
listed_at [] i row l e = absurd (omega arith)
listed_at (r ∷ rows) zero row l e = inl (sym e)
listed_at (r ∷ rows) (suc i) row l e = inr (listed_at rows i row (omega arith) e)

listed_among : (rows : List (List ℕ)) (row : List ℕ) → Listed rows row → Among row rows
listed_among rows row (i, l, e) = listed_at rows i row l e

among_listed : (rows : List (List ℕ)) (row : List ℕ) → Among row rows → Listed rows row
among_listed [] row h = absurd h
among_listed (r ∷ rows) row (inl e) = (0, omega arith, sym e)
among_listed (r ∷ rows) row (inr h) = let i = among_listed rows row h in (suc i.0, omega (arith, i.1), i.2)

distinct_apart : (rows : List (List ℕ)) → ((q r : ℕ) → q < r → r < length rows → get_or rows q [] ≡ get_or rows r [] → ⊥) → Distinct rows
distinct_apart [] h = tt
distinct_apart (x ∷ xs) h = (
  λ m. let i = among_listed xs x m in h 0 (suc i.0) (omega arith) (omega (arith, i.1)) (sym i.2),
  distinct_apart xs (λ q r l k same. h (suc q) (suc r) (omega arith) (omega arith) same),
)

-- ---- the combinations as a list

-- k is how many digits a set may have; a numeral here would have antt compute `members` out
module _ (k : ℕ) (sets : Sets) (small : (x : ℕ) → sets x < 2 ^ k) where
  abbrev combos : List ℕ → List (List ℕ)
  combos [] = [] ∷ []
  combos (x ∷ scope) = flat_map (λ v. map (λ b. v ∷ b) (combos scope)) (members k (sets x) 0)

  length_combos : (scope : List ℕ) → length (combos scope) ≡ ways sets scope
  length_combos [] = refl
  length_combos (x ∷ scope) =
      length_joined (λ v. map (λ b. v ∷ b) (combos scope)) (ways sets scope) (λ v. length-map (combos scope) (λ b. v ∷ b) ∙ length_combos scope) (members k (sets x) 0)
      ∙ ap (λ n. n * ways sets scope) (length_members k (sets x) 0 (small x))

  among_combos : (scope row : List ℕ) → Live sets scope row → Among row (combos scope)
  among_combos [] [] h = inl refl
  among_combos [] (v ∷ row) h = absurd h
  among_combos (x ∷ scope) [] h = absurd h
  among_combos (x ∷ scope) (v ∷ row) h =
      among_joined (λ v. map (λ b. v ∷ b) (combos scope)) v (v ∷ row) (members k (sets x) 0)
      (subst (λ w. Among w (members k (sets x) 0)) (omega arith) (among_members k (sets x) 0 v (in_lt k (sets x) v (small x) h.0) h.0))
      (among_map (λ b. v ∷ b) row (combos scope) (among_combos scope row h.1))

  combos_distinct : (scope : List ℕ) → Distinct (combos scope)
  combos_distinct [] = (λ h. h, tt)
  combos_distinct (x ∷ scope) =
      distinct_joined (λ v. map (λ b. v ∷ b) (combos scope))
      (λ v. distinct_map (λ b. v ∷ b) (λ b d e. tail_same v v b d e) (combos scope) (combos_distinct scope))
      (λ v w z h l.
      let p = map_among (λ b. v ∷ b) z (combos scope) h in
      let q = map_among (λ b. w ∷ b) z (combos scope) l in
      head_same v w p.0 q.0 (sym p.2 ∙ q.2))
      (members k (sets x) 0) (members_distinct k (sets x) 0)

  combos_live : (scope row : List ℕ) → Among row (combos scope) → Live sets scope row
  combos_live [] [] (inl e) = tt
  combos_live [] [] (inr h) = absurd h
  combos_live [] (v ∷ row) (inl e) = let z : ◌≡◌ {A = ℕ} 0 1 = cc in omega arith
  combos_live [] (v ∷ row) (inr h) = absurd h
  combos_live (x ∷ scope) row h =
      let r = joined_among (λ v. map (λ b. v ∷ b) (combos scope)) row (members k (sets x) 0) h in
      let q = map_among (λ b. r.0 ∷ b) row (combos scope) r.2 in
      subst (Live sets (x ∷ scope)) (sym q.2) (in_under (sets x) r.0 (members_in k (sets x) 0 r.0 r.1), combos_live scope q.0 q.1)

  -- ---- the count

  module _ (t : Table) (apart : (q r : ℕ) → q < r → r < length t.rows → get_or t.rows q [] ≡ get_or t.rows r [] → ⊥) where
    distinct : Distinct t.rows
    distinct = distinct_apart t.rows apart

    among_live : (z : List ℕ) → Among z (filter (is_live sets t.scope) t.rows) → Among z (combos t.scope)
    among_live z h = among_combos t.scope z ((is_live_decides sets t.scope z).0 (kept_among (is_live sets t.scope) z t.rows h).1)

    pub universal_if : count_by (is_live sets t.scope) t.rows ≡ ways sets t.scope → Universal sets t
    universal_if e row h =
        among_listed t.rows row
        (kept_among (is_live sets t.scope) row t.rows
        (exhausts (filter (is_live sets t.scope) t.rows) (combos t.scope) (distinct_kept (is_live sets t.scope) t.rows distinct) among_live
        (omega (arith, length-filter (is_live sets t.scope) t.rows, length_combos t.scope)) row (among_combos t.scope row h))).0

    pub count_if : Universal sets t → count_by (is_live sets t.scope) t.rows ≡ ways sets t.scope
    count_if all =
        omega (
          arith,
          length-filter (is_live sets t.scope) t.rows,
          length_combos t.scope,
          no_longer (filter (is_live sets t.scope) t.rows) (combos t.scope) (distinct_kept (is_live sets t.scope) t.rows distinct) among_live,
          no_longer (combos t.scope) (filter (is_live sets t.scope) t.rows) (combos_distinct t.scope)
              (λ z h. among_kept (is_live sets t.scope) z t.rows (listed_among t.rows z (all z (combos_live t.scope z h))) ((is_live_decides sets t.scope z).1 (combos_live t.scope z h))),
        )

    -- a test of whether the two numbers are equal, where the live rows were counted over another form of the table
    pub decides_universal : (s : Table) → s ≡ t → (many all : ℕ) → many ≡ count_by (is_live sets s.scope) s.rows → all ≡ ways sets s.scope → (r : Bool) → Decides r (many ≡ all) → Decides r (Universal sets t)
    decides_universal s e many all p q r =
        let many_is = p ∙ ap (λ t. count_by (is_live sets t.scope) t.rows) e in
        let all-is = q ∙ ap (λ t. ways sets t.scope) e in
        Decides-like r (λ h. universal_if (sym many_is ∙ h ∙ all-is)) (λ u. many_is ∙ count_if u ∙ sym all-is)

    -- more combinations than rows
    pub never_universal : (s : Table) → s ≡ t → (rows all : ℕ) → length s.rows ≡ rows → all ≡ ways sets s.scope → rows < all → Universal sets t → ⊥
    never_universal s e rows all p q less u =
        omega (
          arith,
          count_if u,
          count_by-le-length (is_live sets t.scope) t.rows,
          ap (λ t. length t.rows) e,
          ap (λ t. ways sets t.scope) e,
        )
