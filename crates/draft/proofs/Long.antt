-- How many bits the fields of a book have together.
use Rattle.std.proofs.Common.{◌≡◌, ℕ, ◌+◌, ◌-◌, ◌*◌, ◌/◌, ◌%◌, ◌≤◌, List, [], ◌∷◌, ◌++◌, map, length, Some, sum_by, sum, sym, refl, ap, ◌∙◌, mul-zero, mul-one, mul-add, arith, length-append}
use Rattle.std.specs.List.{flat_map, AllByRecursion}
use Rattle.std.proofs.lemmas.List.{length-map}
use Rattle.std.proofs.lemmas.Nat.{mul-le}
use Rattle.std.proofs.ByRecursion.{All-from_get_or}
use Rattle.std.proofs.lemmas.List.Sums.{sum_by-cons}
use Rattle.bits.proofs.Laws.{length_spell}
use Rattle.book_fields.specs.declared.field.Field.{Field}
use Rattle.grammar.specs.Contents.{Table, Contents, ValidTable, Valid}
use Rattle.book_fields.specs.Fields.{layout}
use Rattle.draft.specs.Entries.{numbered, option_fields, row_fields, table_fields, tables_fields, count_fields, tail_fields, fields}
use Rattle.draft.specs.Encoding.{in_bits, code, spelt, Fit}
use Rattle.draft.specs.Lengths.{table_bits_of, file_bits, file_length_of}
use Rattle.draft.proofs.Spelling.{length_spelt_append}

pub code_long : (f : Field) (v at w a : ℕ) → layout f at ≡ Some (w, a) → length (code (f, v) at) ≡ w
code_long f v at w a e = ap (λ l. length (in_bits v l)) e ∙ length_spell w (v - a)

-- fields of one width
module _ (f : ℕ → Field) (w : ℕ) (wide : (j at : ℕ) → layout (f j) at ≡ Some (w, 0)) where
  pub numbered_long : (xs : List ℕ) (at j : ℕ) → length (spelt at (numbered f j xs)) ≡ w * length xs
  unfolding spelt
  numbered_long [] at j = sym (mul-zero w)
  numbered_long (x ∷ xs) at j =
      let one = code (f j, x) at in
      let rest = spelt (at + length one) (numbered f (j + 1) xs) in
      omega (arith, length-append one rest, code_long (f j) x at w 0 (wide j at), numbered_long xs (at + length one) (j + 1), mul-add w (length xs) 1, mul-one w)

pub options_long : (sizes lengths : List ℕ) → length sizes ≡ length lengths → (at i : ℕ) → length (spelt at (option_fields i sizes lengths)) ≡ 10 * length sizes
unfolding spelt
options_long [] lengths e at i = refl
options_long (s ∷ sizes) [] e at i = absurd (omega arith)
options_long (s ∷ sizes) (n ∷ lengths) e at i = omega (arith, options_long sizes lengths (omega arith) (at + 5 + 5) (i + 1))

pub rows_long : (n t : ℕ) (rows : List (List ℕ)) → AllByRecursion (λ x. length x ≡ n) rows → (at r : ℕ) → length (spelt at (row_fields t r rows)) ≡ 5 * n * length rows
unfolding spelt
rows_long n t [] a at r = sym (mul-zero (5 * n))
rows_long n t (x ∷ rows) a at r =
    let one = numbered (Field.Value t r) 0 x in
    let here = numbered_long (Field.Value t r) 5 (λ _ _. refl) x at 0 in
    omega (arith, length_spelt_append at one (row_fields t (r + 1) rows), here, a.0, rows_long n t rows a.1 (at + length (spelt at one)) (r + 1), mul-add (5 * n) (length rows) 1, mul-one (5 * n))

pub table_long : (x : Table) → AllByRecursion (λ row. length row ≡ length x.scope) x.rows → (at t first : ℕ) → length (spelt at (table_fields t first x)) ≡ table_bits_of x
unfolding spelt
table_long x a at t first =
    let scoped = numbered (Field.ScopeOption t) 0 x.scope in
    let listed = row_fields t first x.rows in
    let here = at + 1 + 2 in
    let there = here + length (spelt here scoped) in
    omega (
      arith,
      length_spelt_append here scoped ((Field.RowCount t, length x.rows) ∷ listed),
      numbered_long (Field.ScopeOption t) 5 (λ _ _. refl) x.scope here 0,
      rows_long (length x.scope) t x.rows a (there + 11) first,
    )

pub tables_long : (xs : List Table) → AllByRecursion (λ x. AllByRecursion (λ row. length row ≡ length x.scope) x.rows) xs → (at t first : ℕ) → length (spelt at (tables_fields t first xs)) ≡ sum_by table_bits_of xs
unfolding spelt
tables_long [] a at t first = refl
tables_long (x ∷ xs) a at t first =
    let rest = tables_fields (t + 1) (first + length x.rows) xs in
    omega (arith, length_spelt_append at (table_fields t first x) rest, table_long x a.0 at t first, tables_long xs a.1 (at + length (spelt at (table_fields t first x))) (t + 1) (first + length x.rows), sum_by-cons table_bits_of x xs)

length_joined : (names : List (List ℕ)) → length (flat_map (λ n. n) names) ≡ sum (map length names)
length_joined [] = refl
length_joined (n ∷ names) = length-append n (flat_map (λ n. n) names) ∙ omega (arith, length_joined names, sum_by-cons (λ x. x) (length n) (map length names))

all_rows_long : (sizes : List ℕ) (xs : List Table) → AllByRecursion (ValidTable sizes) xs → AllByRecursion (λ x. AllByRecursion (λ row. length row ≡ length x.scope) x.rows) xs
all_rows_long sizes [] a = tt
all_rows_long sizes (x ∷ xs) a = (All-from_get_or (λ row. length row ≡ length x.scope) x.rows [] a.0.long, all_rows_long sizes xs a.1)

tail_long : (letters : List ℕ) (at : ℕ) → at + length (spelt at (tail_fields letters)) ≡ 8 * ((at + 7) / 8 + length letters)
unfolding spelt
tail_long letters at =
    let w = (8 - at % 8) % 8 in
    let fill = code (Field.Filling, 0) at in
    let rest = numbered Field.NameByte 0 letters in
    let f : length fill ≡ w = length_spell w 0 in
    omega (arith, f, length-append fill (spelt (at + length fill) rest), numbered_long Field.NameByte 8 (λ _ _. refl) letters (at + length fill) 0)

counts_long : (n m : ℕ) → length (spelt 0 (count_fields n m)) ≡ 19
unfolding spelt
counts_long n m = refl

pub fields_long : (c : Contents) → Valid c → length (spelt 0 (fields c)) ≡ 8 * file_length_of c
fields_long c v =
    let counted = count_fields (length c.sizes) (length c.tables) in
    let options = option_fields 0 c.sizes (map length c.names) in
    let tabled = tables_fields 0 0 c.tables in
    let tailed = tail_fields (flat_map (λ n. n) c.names) in
    let a = counts_long (length c.sizes) (length c.tables) in
    let from₁ = 0 + length (spelt 0 counted) in
    let from₂ = from₁ + length (spelt from₁ options) in
    let from₃ = from₂ + length (spelt from₂ tabled) in
    let b = options_long c.sizes (map length c.names) (sym (length-map c.names length ∙ v.named)) from₁ 0 in
    let d = tables_long c.tables (all_rows_long c.sizes c.tables v.tables) from₂ 0 0 in
    let e = tail_long (flat_map (λ n. n) c.names) from₃ in
    let place : from₃ ≡ file_bits c = omega arith in
    let f : 8 * ((from₃ + 7) / 8 + length (flat_map (λ n. n) c.names)) ≡ 8 * file_length_of c = (λ t. 8 * ((place t + 7) / 8 + length_joined c.names t)) in
    omega (arith, length_spelt_append 0 counted (options ++ (tabled ++ tailed)), length_spelt_append from₁ options (tabled ++ tailed), length_spelt_append from₂ tabled tailed)

-- no file is longer than is read
table_few : (sizes : List ℕ) (x : Table) → ValidTable sizes x → table_bits_of x ≤ 34 + 20 * length x.rows
table_few sizes x v = omega (arith, mul-le (5 * length x.scope) (length x.rows) 20 (length x.rows) (omega (arith, v.few)) (omega arith), v.few)

tables_few : (sizes : List ℕ) (xs : List Table) → AllByRecursion (ValidTable sizes) xs → sum_by table_bits_of xs ≤ 34 * length xs + 20 * sum (map (λ t. length t.rows) xs)
tables_few sizes [] a = omega arith
tables_few sizes (x ∷ xs) a =
    omega (arith, table_few sizes x a.0, tables_few sizes xs a.1, sum_by-cons table_bits_of x xs, sum_by-cons (λ n. n) (length x.rows) (map (λ t. length t.rows) xs))

lengths_few : (sizes lengths : List ℕ) (i : ℕ) → length sizes ≡ length lengths → AllByRecursion Fit (option_fields i sizes lengths) → sum lengths ≤ 31 * length lengths
lengths_few [] [] i e a = omega arith
lengths_few [] (n ∷ lengths) i e a = absurd (omega arith)
lengths_few (s ∷ sizes) [] i e a = absurd (omega arith)
lengths_few (s ∷ sizes) (n ∷ lengths) i e a =
    omega (arith, (a.1.0 0).1, lengths_few sizes lengths (i + 1) (omega arith) a.1.1, sum_by-cons (λ x. x) n lengths)

pub file_short : (c : Contents) → Valid c → AllByRecursion Fit (option_fields 0 c.sizes (map length c.names)) → file_length_of c ≤ 32768
file_short c v a =
    let even : length (map length c.names) ≡ length c.sizes = length-map c.names length ∙ v.named in
    omega (arith, tables_few c.sizes c.tables v.tables, lengths_few c.sizes (map length c.names) 0 (sym even) a, v.few, v.tabled, v.short)
