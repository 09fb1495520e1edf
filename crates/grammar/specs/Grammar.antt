-- The order of the fields of a book, with the values that each may have.
use Rattle.std.specs.Prelude.{ℕ, ◌+◌, ◌-◌, min, Bool, true, false, cond, List, [], ◌∷◌, map, length, Some, None, Ok, sum, Option, ◌==◌, nat_lt, slice_index}
use Rattle.questions.specs.declared.question.Question.{Question}
use Rattle.book_fields.specs.declared.field.Field.{Field}
use Rattle.grammar.specs.Contents.{Table, Contents}
use Rattle.grammar.specs.Layout.{cut}
use Rattle.book_source.specs.Readings.{Reading, Source, and_then, ask, give, next, within, each}

-- the size of the option i, and the length of its name
abbrev pub shape : Source → ℕ → Reading (ℕ × ℕ)
shape s i = next (within s (Field.Size i) 1 33) (λ size. next (within s (Field.NameLength i) 1 17) (λ long. give (size, long)))

-- the sizes of n options, and the lengths of their names
abbrev pub shapes : Source → ℕ → Reading (List ℕ × List ℕ)
shapes s n = next (each (shape s) (λ i _. i + 1) 0 n) (λ os. give (map (λ o. o.0) os, map (λ o. o.1) os))

-- The scope of the table t: options of the book in rising order. Carried on: the place in the scope, and the lowest option that may stand there.
abbrev pub member : Source → ℕ → ℕ → ℕ × ℕ → Reading ℕ
member s t options c = within s (Field.ScopeOption t c.0) c.1 options

abbrev pub scope : Source → ℕ → ℕ → ℕ → Reading (List ℕ)
scope s t options n = each (member s t options) (λ c x. (c.0 + 1, x + 1)) (0, 0) n

-- the values of the row r of the table t, each below its option's size
abbrev pub value : Source → ℕ → ℕ → List ℕ → List ℕ → ℕ → Reading ℕ
value s t r sizes scope j = within s (Field.Value t r j) 0 (slice_index sizes (slice_index scope j))

abbrev pub values : Source → ℕ → ℕ → List ℕ → List ℕ → Reading (List ℕ)
values s t r sizes scope = each (value s t r sizes scope) (λ j _. j + 1) 0 (length scope)

-- whether a row comes before another, compared from the first value on
abbrev pub before : List ℕ → List ℕ → Bool
before [] ys = false
before (x ∷ xs) [] = false
before (x ∷ xs) (y ∷ ys) = cond (x == y) (before xs ys) (nat_lt x y)

-- whether a row rises above the one in front of it, if there is one
abbrev pub rises : Option (List ℕ) → List ℕ → Bool
rises None row = true
rises (Some last) row = before last row

-- A row. Carried on: its place among the rows of all tables, and the row in front of it.
abbrev pub row : Source → ℕ → List ℕ → List ℕ → ℕ × Option (List ℕ) → Reading (List ℕ)
row s t sizes scope c at = and_then (values s t c.0 sizes scope at) (λ p. ask (rises c.1 p.0) Question.RowValue at (Field.Row t c.0) (Ok p))

abbrev pub rows : Source → ℕ → ℕ → List ℕ → List ℕ → ℕ → Reading (List (List ℕ))
rows s t first sizes scope n = each (row s t sizes scope) (λ c x. (c.0 + 1, Some x)) (first, None) n

-- how many rows a table may have when those before it have so many
abbrev pub row_limit_of : ℕ → ℕ
row_limit_of first = min 1024 (8192 - first)

-- The heading of the table t: its scope, and how many rows it has.
abbrev pub heading : Source → ℕ → ℕ → ℕ → Reading (List ℕ × ℕ)
heading s options t first =
    next (within s (Field.Kind t) 0 1) (λ _.
    next (within s (Field.ScopeLength t) 1 5) (λ k.
    next (scope s t options k) (λ xs.
    next (within s (Field.RowCount t) 0 (row_limit_of first + 1)) (λ n. give (xs, n)))))

-- A table. Carried on: its number, and how many rows the tables before it have.
abbrev pub table : Source → List ℕ → ℕ × ℕ → Reading Table
table s sizes c =
    next (heading s (length sizes) c.0 c.1) (λ h.
    next (rows s c.0 c.1 sizes h.0 h.1) (λ rs. give (record { scope = h.0; rows = rs })))

abbrev pub tables : Source → List ℕ → ℕ → Reading (List Table)
tables s sizes n = each (table s sizes) (λ c t. (c.0 + 1, c.1 + length t.rows)) (0, 0) n

-- the bytes of all names: visible characters
abbrev pub letter : Source → ℕ → Reading ℕ
letter s k = within s (Field.NameByte k) 0x21 0x7f

abbrev pub letters : Source → ℕ → Reading (List ℕ)
letters s n = each (letter s) (λ k _. k + 1) 0 n

-- the edition, and the numbers of options and tables
abbrev pub counts : Source → Reading (ℕ × ℕ)
counts s =
    next (within s Field.Edition 1 2) (λ _.
    next (within s Field.Options 1 25) (λ n.
    next (within s Field.Tables 0 49) (λ m. give (n, m))))

-- the filling bits and n name bytes, behind which nothing stands
abbrev pub tail : Source → ℕ → Reading (List ℕ)
tail s n =
    next (within s Field.Filling 0 1) (λ _.
    next (letters s n) (λ ls.
    next (within s Field.End 0 1) (λ _. give ls)))

abbrev pub book : Source → Reading Contents
book s =
    next (counts s) (λ c.
    next (shapes s c.0) (λ os.
    next (tables s os.0 c.1) (λ ts.
    next (tail s (sum os.1)) (λ ls. give (record { sizes = os.0; names = cut ls os.1; tables = ts })))))
