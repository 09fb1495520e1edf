-- What is read, from whatever source, is a valid book.
use Rattle.std.proofs.Common.{◌≡◌, ℕ, zero, suc, ◌+◌, ◌<◌, ◌≤◌, true, List, [], ◌∷◌, map, length, get_or, Some, None, Ok, sum, Option, sym, ap, ◌∙◌, subst, add-zero, zero-add, arith}
use Rattle.std.specs.List.{AllByRecursion}
use Rattle.std.proofs.lemmas.List.{length-map}
use Rattle.std.proofs.lemmas.List.Sums.{sum_by-cons}
use Rattle.questions.specs.declared.question.Question.{Question}
use Rattle.book_fields.specs.declared.field.Field.{Field}
use Rattle.grammar.specs.Contents.{Table, Contents, ValidTable, Valid}
use Rattle.book_source.specs.Readings.{Source, each, within}
use Rattle.grammar.specs.Grammar.{shape, shapes, member, scope, value, values, rises, row, rows, row_limit_of, heading, table, tables, counts, tail, book}
use Rattle.book_source.proofs.Inversion.{ok_so, ask_so, then_so, next_so, within_so, Chain, each_so}
use Rattle.grammar.proofs.Cuts.{length_cut}
use Rattle.grammar.proofs.Rising.{Rises, rises_apart}

-- options of a scope: each at least the lowest that may stand there, and all rising
Scoped : ℕ → ℕ × ℕ → ℕ → Type 0
Scoped options c x = (c.1 ≤ x) × (x < options)

scope_at : (options : ℕ) (c : ℕ × ℕ) (xs : List ℕ) → Chain (λ c x. (c.0 + 1, x + 1)) (Scoped options) c xs → (j : ℕ) → j < length xs → (c.1 ≤ get_or xs j 0) × (get_or xs j 0 < options)
unfolding Scoped
scope_at options c [] h j lt = absurd (omega arith)
scope_at options c (x ∷ xs) h zero lt = h.0
scope_at options c (x ∷ xs) h (suc j) lt = let r = scope_at options (c.0 + 1, x + 1) xs h.1 j (omega arith) in (omega (arith, r.0, h.0.0), r.1)

scope_rising : (options : ℕ) (c : ℕ × ℕ) (xs : List ℕ) → Chain (λ c x. (c.0 + 1, x + 1)) (Scoped options) c xs → (i j : ℕ) → i < j → j < length xs → get_or xs i 0 < get_or xs j 0
unfolding Scoped
scope_rising options c [] h i j lt in-j = absurd (omega arith)
scope_rising options c (x ∷ xs) h i zero lt in-j = absurd (omega arith)
scope_rising options c (x ∷ xs) h zero (suc j) lt in-j = let r = scope_at options (c.0 + 1, x + 1) xs h.1 j (omega arith) in omega (arith, r.0)
scope_rising options c (x ∷ xs) h (suc i) (suc j) lt in-j = scope_rising options (c.0 + 1, x + 1) xs h.1 i j (omega arith) (omega arith)

-- a row of values below their sizes
record ValidRow (sizes scope row : List ℕ) : Type 0 where
  long : length row ≡ length scope
  values : (j : ℕ) → j < length scope → get_or row j 0 < get_or sizes (get_or scope j 0) 0

module _ (sizes scope : List ℕ) where
  Small : ℕ → ℕ → Type 0
  Small j v = v < get_or sizes (get_or scope j 0) 0

  small_at : (k : ℕ) (vs : List ℕ) → Chain (λ j _. j + 1) Small k vs → (j : ℕ) → j < length vs → get_or vs j 0 < get_or sizes (get_or scope (k + j) 0) 0
  unfolding Small
  small_at k [] h j lt = absurd (omega arith)
  small_at k (v ∷ vs) h zero lt = subst (λ n. v < get_or sizes (get_or scope n 0) 0) (sym (add-zero k)) h.0
  small_at k (v ∷ vs) h (suc j) lt =
      let e : k + 1 + j ≡ k + suc j = omega arith in
      subst (λ n. get_or vs j 0 < get_or sizes (get_or scope n 0) 0) e (small_at (k + 1) vs h.1 j (omega arith))

  row_valid : (s : Source) (t : ℕ) (c : ℕ × Option (List ℕ)) (at : ℕ) (r : List ℕ) (end : ℕ) → row s t sizes scope c at ≡ Ok (r, end) → ValidRow sizes scope r × (rises c.1 r ≡ true)
  unfolding Small
  row_valid s t c at r end e =
      then_so (values s t c.0 sizes scope at) _ e (λ p was rest.
      ask_so (rises c.1 p.0) Question.RowValue at (Field.Row t c.0) (Ok p) rest (λ up same.
      let r-is : p.0 ≡ r = ap (λ q. q.0) (ok_so same) in
      let all = each_so (value s t c.0 sizes scope) (λ j _. j + 1) Small (λ j at v end e. within_so s (Field.Value t c.0 j) 0 (get_or sizes (get_or scope j 0) 0) at v end e (λ _ _ high. high)) (length scope) 0 at p.0 p.1 was in (
        record {
          long = ap length (sym r-is) ∙ all.0;
          values = λ j lt. subst (λ l. get_or l j 0 < get_or sizes (get_or scope j 0) 0) r-is (subst (λ n. get_or p.0 j 0 < get_or sizes (get_or scope n 0) 0) (zero-add j) (small_at 0 p.0 all.1 j (omega (arith, all.0))));
        },
        ap (rises c.1) (sym r-is) ∙ up,
      )))

  Rowed : ℕ × Option (List ℕ) → List ℕ → Type 0
  Rowed c r = ValidRow sizes scope r × (rises c.1 r ≡ true)

  rows_at : (c : ℕ × Option (List ℕ)) (rs : List (List ℕ)) → Chain (λ c x. (c.0 + 1, Some x)) Rowed c rs → (r : ℕ) → r < length rs → ValidRow sizes scope (get_or rs r [])
  unfolding Rowed
  rows_at c [] h r lt = absurd (omega arith)
  rows_at c (x ∷ rs) h zero lt = h.0.0
  rows_at c (x ∷ rs) h (suc r) lt = rows_at (c.0 + 1, Some x) rs h.1 r (omega arith)

  rows_rise : (c : ℕ × Option (List ℕ)) (rs : List (List ℕ)) → Chain (λ c x. (c.0 + 1, Some x)) Rowed c rs → Rises c.1 rs
  unfolding Rowed
  rows_rise c [] h = tt
  rows_rise c (x ∷ rs) h = (h.0.1, rows_rise (c.0 + 1, Some x) rs h.1)

  rows_valid : (s : Source) (t first n at : ℕ) (rs : List (List ℕ)) (end : ℕ) → rows s t first sizes scope n at ≡ Ok (rs, end)
      → (length rs ≡ n) × ((r : ℕ) → r < length rs → ValidRow sizes scope (get_or rs r [])) × Rises None rs
  unfolding Rowed
  rows_valid s t first n at rs end e =
      let all = each_so (row s t sizes scope) (λ c x. (c.0 + 1, Some x)) Rowed (row_valid s t) n (first, None) at rs end e in
      (all.0, rows_at (first, None) rs all.1, rows_rise (first, None) rs all.1)

-- a table that leaves room for the rest
Tabled : List ℕ → ℕ × ℕ → Table → Type 0
Tabled sizes c t = ValidTable sizes t × (length t.rows ≤ row_limit_of c.1)

table_valid : (s : Source) (sizes : List ℕ) (c : ℕ × ℕ) (at : ℕ) (t : Table) (end : ℕ) → table s sizes c at ≡ Ok (t, end) → Tabled sizes c t
unfolding Tabled Scoped
table_valid s sizes c at t end e =
    next_so (heading s (length sizes) c.0 c.1) _ at e (λ h a was e.
    next_so (rows s c.0 c.1 sizes h.0 h.1) _ a e (λ rs b was-rows last.
    next_so (within s (Field.Kind c.0) 0 1) _ at was (λ _ d _ was.
    next_so (within s (Field.ScopeLength c.0) 1 5) _ d was (λ k f was-k was.
    next_so (scope s c.0 (length sizes) k) _ f was (λ xs g was-xs was.
    next_so (within s (Field.RowCount c.0) 0 (row_limit_of c.1 + 1)) _ g was (λ n m was-n done.
    within_so s (Field.ScopeLength c.0) 1 5 d k f was-k (λ _ k-low k-high.
    within_so s (Field.RowCount c.0) 0 (row_limit_of c.1 + 1) g n m was-n (λ _ _ n-high.
    let head : (xs, n) ≡ h = ap (λ q. q.0) (ok_so done) in
    let t-is : record { scope = h.0; rows = rs } ≡ t = ap (λ q. q.0) (ok_so last) in
    let xs-is : xs ≡ h.0 = ap (λ q. q.0) head in
    let n-is : n ≡ h.1 = ap (λ q. q.1) head in
    let sc = each_so (member s c.0 (length sizes)) (λ c x. (c.0 + 1, x + 1)) (Scoped (length sizes))
    (λ c' at x end e. within_so s (Field.ScopeOption c.0 c'.0) c'.1 (length sizes) at x end e (λ _ low high. (low, high))) k (0, 0) f xs g was-xs in
    let chain = subst (Chain (λ c x. (c.0 + 1, x + 1)) (Scoped (length sizes)) (0, 0)) xs-is sc.1 in
    let size : length h.0 ≡ k = ap length (sym xs-is) ∙ sc.0 in
    let all = rows_valid sizes h.0 s c.0 c.1 h.1 a rs b was-rows in
    subst (λ t. ValidTable sizes t × (length t.rows ≤ row_limit_of c.1)) t-is (
      record {
        some = omega (arith, size);
        few = omega (arith, size);
        known = λ j lt. (scope_at (length sizes) (0, 0) h.0 chain j lt).1;
        rising = scope_rising (length sizes) (0, 0) h.0 chain;
        long = λ r lt. (all.1 r lt).long;
        values = λ r j lt. (all.1 r lt).values j;
        apart = rises_apart None rs all.2;
        short = omega (arith, all.0);
      },
      omega (arith, all.0),
    )))))))))

tables_all : (sizes : List ℕ) (c : ℕ × ℕ) (ts : List Table) → Chain (λ c t. (c.0 + 1, c.1 + length t.rows)) (Tabled sizes) c ts → AllByRecursion (ValidTable sizes) ts
unfolding Tabled
tables_all sizes c [] h = tt
tables_all sizes c (t ∷ ts) h = (h.0.0, tables_all sizes (c.0 + 1, c.1 + length t.rows) ts h.1)

tables_short : (sizes : List ℕ) (c : ℕ × ℕ) (ts : List Table) → Chain (λ c t. (c.0 + 1, c.1 + length t.rows)) (Tabled sizes) c ts → c.1 ≤ 8192 → c.1 + sum (map (λ t. length t.rows) ts) ≤ 8192
unfolding Tabled
tables_short sizes c [] h le = omega (arith, add-zero c.1)
tables_short sizes c (t ∷ ts) h le =
    let rest = tables_short sizes (c.0 + 1, c.1 + length t.rows) ts h.1 (omega (arith, h.0.1)) in
    omega (arith, rest, sum_by-cons (λ x. x) (length t.rows) (map (λ t. length t.rows) ts))

-- the sizes of options
Shaped : ℕ → ℕ × ℕ → Type 0
Shaped i o = (1 ≤ o.0) × (o.0 ≤ 32)

shape_valid : (s : Source) (i at : ℕ) (o : ℕ × ℕ) (end : ℕ) → shape s i at ≡ Ok (o, end) → Shaped i o
unfolding Shaped
shape_valid s i at o end e =
    next_so (within s (Field.Size i) 1 33) _ at e (λ size a was e.
    next_so (within s (Field.NameLength i) 1 17) _ a e (λ long b _ last.
    within_so s (Field.Size i) 1 33 at size a was (λ _ low high.
    let is : size ≡ o.0 = ap (λ q. q.0.0) (ok_so last) in (omega arith, omega arith))))

shaped_all : (i : ℕ) (os : List (ℕ × ℕ)) → Chain (λ i _. i + 1) Shaped i os → AllByRecursion (λ s. (1 ≤ s) × (s ≤ 32)) (map (λ o. o.0) os)
unfolding Shaped
shaped_all i [] h = tt
shaped_all i (o ∷ os) h = (h.0, shaped_all (i + 1) os h.1)

shapes_valid : (s : Source) (n at : ℕ) (os : List ℕ × List ℕ) (end : ℕ) → shapes s n at ≡ Ok (os, end) → (length os.0 ≡ n) × (length os.1 ≡ n) × AllByRecursion (λ s. (1 ≤ s) × (s ≤ 32)) os.0
shapes_valid s n at os end e =
    next_so (each (shape s) (λ i _. i + 1) 0 n) _ at e (λ ps a was last.
    let all = each_so (shape s) (λ i _. i + 1) Shaped (shape_valid s) n 0 at ps a was in
    let is : (map (λ o. o.0) ps, map (λ o. o.1) ps) ≡ os = ap (λ q. q.0) (ok_so last) in
    subst (λ os. (length os.0 ≡ n) × (length os.1 ≡ n) × AllByRecursion (λ s. (1 ≤ s) × (s ≤ 32)) os.0) is
    (length-map ps (λ o. o.0) ∙ all.0, length-map ps (λ o. o.1) ∙ all.0, shaped_all 0 ps all.1))

pub book_valid : (s : Source) (at : ℕ) (c : Contents) (end : ℕ) → book s at ≡ Ok (c, end) → Valid c
book_valid s at c end e =
    next_so (counts s) _ at e (λ k a was e.
    next_so (shapes s k.0) _ a e (λ os b was-os e.
    next_so (tables s os.0 k.1) _ b e (λ ts d was-ts e.
    next_so (tail s (sum os.1)) _ d e (λ ls f _ last.
    next_so (within s Field.Edition 1 2) _ at was (λ _ g _ was.
    next_so (within s Field.Options 1 25) _ g was (λ n h was-n was.
    next_so (within s Field.Tables 0 49) _ h was (λ m j was-m done.
    within_so s Field.Options 1 25 g n h was-n (λ _ n-low n-high.
    within_so s Field.Tables 0 49 h m j was-m (λ _ _ m-high.
    let n-is : n ≡ k.0 = ap (λ q. q.0.0) (ok_so done) in
    let m-is : m ≡ k.1 = ap (λ q. q.0.1) (ok_so done) in
    let o = shapes_valid s k.0 a os b was-os in
    let t = each_so (table s os.0) (λ c t. (c.0 + 1, c.1 + length t.rows)) (Tabled os.0) (table_valid s os.0) k.1 (0, 0) b ts d was-ts in
    subst Valid (ap (λ q. q.0) (ok_so last))
    (record {
      some = omega (arith, o.0);
      few = omega (arith, o.0);
      named = length_cut ls os.1 ∙ o.1 ∙ sym o.0;
      sized = o.2;
      tabled = omega (arith, t.0);
      tables = tables_all os.0 (0, 0) ts t.1;
      short = omega (arith, tables_short os.0 (0, 0) ts t.1 (omega arith));
    }))))))))))
