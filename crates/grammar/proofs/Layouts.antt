-- Rows as they are kept.
use Rattle.std.proofs.Common.{◌≡◌, ℕ, ◌+◌, ◌-◌, ◌<◌, ◌≤◌, List, [], ◌∷◌, ◌++◌, map, length, take, drop, set, sym, refl, ap, ◌∙◌, subst, arith, length-drop, length-take, length-take-le, take-take, take_at}
use mathlib.Core.List.{map-append}
use borrow.Rule.Slice.PartMut.{put_mid}
use Rattle.std.specs.List.{AllByRecursion, flat_map}
use Rattle.std.proofs.lemmas.List.{drop-take, take_more_set, flat_map_more, length-map}
use Rattle.std.proofs.ByRecursion.{All-push, All-weaker}
use Rattle.std.proofs.lemmas.Slice.{take-put_mid, between-put_mid}
use Rattle.grammar.specs.Layout.{Headed, Laid, table_of, padded, Padded, laid}
use Rattle.grammar.specs.declared.index.TableIndex.{TableIndex}

-- rows that are padded are their values, padded
pub padded_all : (n : ℕ) (rows : List (List ℕ)) → AllByRecursion (Padded n) rows → map (padded n) (map (take n) rows) ≡ rows
padded_all n [] a = refl
padded_all n (r ∷ rows) a = (λ t. sym a.0 t ∷ padded_all n rows a.1 t)

-- A table whose rows were put behind the first rows of out.
module _ (options first : ℕ) (t : TableIndex) (h : Headed options first t) (out rows : List (List ℕ)) (long : length rows ≡ t.count) (room : 8192 ≤ length out) where
  abbrev new : List (List ℕ)
  new = put_mid first (first + t.count - first) out rows

  pub put_rows_lem : take t.count (drop t.start new) ≡ rows
  put_rows_lem =
      let e : first + t.count - first ≡ t.count = omega arith in
      (λ i. take (sym e i) (drop (h.starts i) new))
      ∙ between-put_mid first (first + t.count - first) out rows (first + t.count) (omega (arith, h.ends)) (omega arith)

  pub put_table_lem : table_of new t ≡ record { scope = take t.arity t.scope; rows = map (take t.arity) rows }
  put_table_lem = (λ i. record { scope = take t.arity t.scope; rows = map (take t.arity) (put_rows_lem i) })

  pub put_grown : AllByRecursion (Padded t.arity) rows → take (first + t.count) new ≡ take first out ++ laid (table_of new t)
  put_grown a =
      let n : length (take t.arity t.scope) ≡ t.arity = length-take-le t.arity t.scope (omega (arith, h.few, h.full)) in
      take-put_mid first (first + t.count - first) out rows (first + t.count) (omega arith) (omega (arith, h.ends))
      ∙ ap (λ l. take first out ++ l) (sym (
      (λ i. map (padded (n i)) (map (take t.arity) (put_rows_lem i)))
      ∙ padded_all t.arity rows a))

-- what stands at the places before n is all that a table that ends there sees
window : (xs : List (List ℕ)) (p c n : ℕ) → p + c ≤ n → take c (drop p xs) ≡ take c (drop p (take n xs))
window xs p c n h =
    let e : n ≡ p + (n - p) = omega arith in
    sym (ap (take c) (ap (λ k. drop p (take k xs)) e ∙ drop-take p (n - p) xs) ∙ take-take c (n - p) (drop p xs) (omega arith))

pub table_agrees : (xs ys : List (List ℕ)) (n : ℕ) (t : TableIndex) → take n xs ≡ take n ys → t.start + t.count ≤ n → table_of xs t ≡ table_of ys t
table_agrees xs ys n t e h =
    let same = window xs t.start t.count n h ∙ ap (λ l. take t.count (drop t.start l)) e ∙ sym (window ys t.start t.count n h) in
    (λ i. record { scope = take t.arity t.scope; rows = map (take t.arity) (same i) })

pub tables_agree : (xs ys : List (List ℕ)) (n : ℕ) (ts : List TableIndex) → take n xs ≡ take n ys → AllByRecursion (λ t. t.start + t.count ≤ n) ts → map (table_of xs) ts ≡ map (table_of ys) ts
tables_agree xs ys n [] e a = refl
tables_agree xs ys n (t ∷ ts) e a = (λ i. table_agrees xs ys n t e a.0 i ∷ tables_agree xs ys n ts e a.1 i)

-- One table more behind those that are laid.
module _ (options first : ℕ) (t : TableIndex) (h : Headed options first t) (read : List TableIndex) (k : ℕ) (lt : k < length read) (out new : List (List ℕ))
    (room : 8192 ≤ length out) (same : length new ≡ length out) (so : Laid (take k read) out first) (grown : take (first + t.count) new ≡ take first out ++ laid (table_of new t)) where
  kept : take first new ≡ take first out
  kept =
      let long : length (take first out) ≡ first = length-take-le first out (omega (arith, h.ends)) in
      sym (take-take first (first + t.count) new (omega arith)) ∙ ap (take first) grown ∙ take_at (take first out) (laid (table_of new t)) first long

  pub tables_more : map (table_of new) (take (k + 1) (set read k t)) ≡ map (table_of out) (take k read) ++ table_of new t ∷ []
  tables_more =
      ap (map (table_of new)) (take_more_set read k t lt) ∙ map-append (table_of new) (take k read) (t ∷ [])
      ∙ ap (λ l. l ++ table_of new t ∷ []) (tables_agree new out first (take k read) kept so.ends)

  pub count_more : length (table_of new t).rows ≡ t.count
  count_more = length-map (take t.count (drop t.start new)) (take t.arity) ∙ simp (length-take, length-drop) (omega (arith, h.starts, h.ends))

  pub laid_more : Laid (take (k + 1) (set read k t)) new (first + t.count)
  laid_more = record {
    few = h.ends;
    are = grown ∙ ap (λ l. l ++ laid (table_of new t)) so.are ∙ flat_map_more laid [] (map (table_of out) (take k read)) (table_of new t) ∙ ap (flat_map laid) (sym tables_more);
    ends = subst (AllByRecursion (λ t'. t'.start + t'.count ≤ first + t.count)) (sym (take_more_set read k t lt))
        (All-push (λ t'. t'.start + t'.count ≤ first + t.count) (take k read) t (All-weaker (λ t'. t'.start + t'.count ≤ first) _ (λ x e. omega arith) (take k read) so.ends) (omega (arith, h.starts)));
  }
