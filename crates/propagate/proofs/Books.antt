-- What a book's tables are known to be.
use Rattle.std.proofs.Common.{◌≡◌, ℕ, suc, ◌<◌, ◌≤◌, List, [], ◌∷◌, map, length, get_or, take, drop, sym, refl, ap, ◌∙◌, subst, ap₂, arith, length-take}
use Rattle.std.specs.List.{All, ContainsAt as Has, AllByRecursion}
use Rattle.std.proofs.lemmas.Grind.{get_or_default_zero}
use Rattle.std.proofs.lemmas.List.{get_or-map, get_or-take, length-map}
use Rattle.std.proofs.ByRecursion.{All-get_or, has_get_or}
use Rattle.grammar.specs.Contents.{Table, ValidTable}
use Rattle.grammar.specs.Layout.{table_of}
use Rattle.book.specs.Books.{contents, rows_at, tables_at}
use Rattle.grammar.specs.declared.index.TableIndex.{TableIndex}
use Rattle.book.specs.declared.book.Book.{Book}
use Rattle.book.proofs.Sizes.{valid, size_most}
use Rattle.propagate.specs.Steps.{Readable, table_from}
use Rattle.grammar.proofs.Windows.{take_min}

abbrev pub table_at : Book → TableIndex → Table
table_at b t = table_of (rows_at b) t

abbrev pub rows_of : Book → TableIndex → List (List ℕ)
rows_of b t = take t.count (drop t.start (rows_at b))

same_takes : (n a : ℕ) (rows : List (List ℕ)) → ((r : ℕ) → r < length rows → length (take a (get_or rows r [])) ≡ n) → map (take n) rows ≡ map (take a) rows
same_takes n a [] h = refl
same_takes n a (row ∷ rows) h =
    ap₂ (λ x xs. x ∷ xs) (take_min row a n (sym (h 0 (omega arith)) ∙ length-take a row)) (same_takes n a rows (λ r l. h (suc r) (omega arith)))

module _ (b : Book) (t : TableIndex) (one : Has (tables_at b) t) where
  pub table_valid : ValidTable (contents b).sizes (table_of (rows_at b) t)
  table_valid =
      let f = table_of (rows_at b) in
      let ts = tables_at b in
      let k = one.0 in
      subst (ValidTable (contents b).sizes) (get_or-map f ts k t (f t) one.1 ∙ ap f (one.2 t))
      (All-get_or (ValidTable (contents b).sizes) (map f ts) k (f t) (subst (λ n. k < n) (sym (length-map ts f)) one.1) (valid b).tables)

  row_at : (r : ℕ) → r < length (rows_of b t) → get_or (map (take t.arity) (rows_of b t)) r [] ≡ take t.arity (get_or (rows_of b t) r [])
  row_at r l = get_or-map (take t.arity) (rows_of b t) r [] [] l

  inside : (r : ℕ) → r < length (rows_of b t) → r < length (map (take t.arity) (rows_of b t))
  inside r l = subst (λ n. r < n) (sym (length-map (rows_of b t) (take t.arity))) l

  table_is : table_from (take t.arity t.scope) (rows_of b t) ≡ table_of (rows_at b) t
  table_is =
      ap (λ rows. record { scope = take t.arity t.scope; rows = rows })
      (same_takes (length (take t.arity t.scope)) t.arity (rows_of b t)
      (λ r l. ap length (sym (row_at r l)) ∙ table_valid.long r (inside r l)))

  readable : Readable (take t.arity t.scope) (rows_of b t)
  readable = record {
    few = table_valid.few;
    known = λ j l. omega (arith, table_valid.known j l, (valid b).few);
    small = λ r j l m.
        let n : j < t.arity = omega (arith, length-take t.arity t.scope) in
        let e : get_or (get_or (map (take t.arity) (rows_of b t)) r []) j 0 ≡ get_or (get_or (rows_of b t) r []) j 0 = ap (λ row. get_or row j 0) (row_at r l) ∙ get_or-take t.arity (get_or (rows_of b t) r []) j 0 n in
        omega (arith, e, table_valid.values r j (inside r l) m, size_most (contents b) (valid b) (get_or (take t.arity t.scope) j 0) (table_valid.known j m));
  }

  -- the same of the scope and the rows as they were taken out of the book
  pub table_at_lem : (scope : List ℕ) (rows : List (List ℕ)) → scope ≡ take t.arity t.scope → rows ≡ rows_of b t → table_from scope rows ≡ table_of (rows_at b) t
  table_at_lem scope rows e f = ap₂ table_from e f ∙ table_is

  pub readable_at : (scope : List ℕ) (rows : List (List ℕ)) → scope ≡ take t.arity t.scope → rows ≡ rows_of b t → Readable scope rows
  readable_at scope rows e f = subst (Readable scope) (sym f) (subst (λ s. Readable s (rows_of b t)) (sym e) readable)

  pub scope_known : (scope : List ℕ) → scope ≡ take t.arity t.scope → (j : ℕ) → j < length scope → get_or scope j 0 < length (contents b).sizes
  scope_known scope e = subst (λ s. (j : ℕ) → j < length s → get_or s j 0 < length (contents b).sizes) (sym e) table_valid.known

  -- no option of it is numbered n or more, where n is as much as a book may have
  pub scope_under : (scope : List ℕ) → scope ≡ take t.arity t.scope → (n : ℕ) → 24 ≤ n → All (λ x. x < n) scope
  scope_under scope e n most k d l = omega (arith, get_or_default_zero scope k d l, scope_known scope e k l, (valid b).few)

-- what stands past the end of a list of tables
abbrev pub blank : TableIndex
blank = record { scope = []; arity = 0; start = 0; count = 0 }

-- a table that a loop over the tables comes to
pub one_of : (b : Book) (tables : List TableIndex) (i : ℕ) → tables ≡ tables_at b → i < length tables → Has (tables_at b) (get_or tables i blank)
one_of b tables i e l = subst (λ ts. Has ts (get_or tables i blank)) e (has_get_or tables i blank l)

-- what holds of every table of the contents holds of it
pub all_at : (P : Table → Type 0) (b : Book) (tables : List TableIndex) (i : ℕ) → tables ≡ tables_at b → i < length tables → AllByRecursion P (contents b).tables → P (table_at b (get_or tables i blank))
all_at P b tables i e l all =
    subst P (get_or-map (table_at b) tables i blank (table_at b blank) l)
    (All-get_or P (map (table_at b) tables) i (table_at b blank) (subst (λ n. i < n) (sym (length-map tables (table_at b))) l) (subst (λ ts. AllByRecursion P (map (table_at b) ts)) (sym e) all))
