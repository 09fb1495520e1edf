-- The fields of a book in their order, each with its value.
use Rattle.std.specs.Prelude.{ℕ, ◌+◌, List, [], ◌∷◌, ◌++◌, map, length}
use Rattle.std.specs.List.{flat_map}
use Rattle.book_fields.specs.declared.field.Field.{Field}
use Rattle.grammar.specs.Contents.{Table, Contents}

abbrev pub Entry : Type 0
Entry = Field × ℕ

-- values that stand one behind another, the first at the place j
abbrev pub numbered : (ℕ → Field) → ℕ → List ℕ → List Entry
numbered f j [] = []
numbered f j (x ∷ xs) = (f j, x) ∷ numbered f (j + 1) xs

-- options, the first of which is the option i: sizes, and lengths of names
abbrev pub option_fields : ℕ → List ℕ → List ℕ → List Entry
option_fields i [] lengths = []
option_fields i (s ∷ sizes) [] = []
option_fields i (s ∷ sizes) (n ∷ lengths) = (Field.Size i, s) ∷ (Field.NameLength i, n) ∷ option_fields (i + 1) sizes lengths

-- rows of the table t, the first of which is the row r of the book
abbrev pub row_fields : ℕ → ℕ → List (List ℕ) → List Entry
row_fields t r [] = []
row_fields t r (x ∷ rows) = numbered (Field.Value t r) 0 x ++ row_fields t (r + 1) rows

-- the table t, whose first row is the row `first` of the book
abbrev pub table_fields : ℕ → ℕ → Table → List Entry
table_fields t first x =
    (Field.Kind t, 0) ∷ (Field.ScopeLength t, length x.scope)
    ∷ (numbered (Field.ScopeOption t) 0 x.scope ++ (Field.RowCount t, length x.rows) ∷ row_fields t first x.rows)

-- tables, the first of which is the table t
abbrev pub tables_fields : ℕ → ℕ → List Table → List Entry
tables_fields t first [] = []
tables_fields t first (x ∷ tables) = table_fields t first x ++ tables_fields (t + 1) (first + length x.rows) tables

abbrev pub count_fields : ℕ → ℕ → List Entry
count_fields options tables = (Field.Edition, 1) ∷ (Field.Options, options) ∷ (Field.Tables, tables) ∷ []

-- the filling and the bytes of all names
abbrev pub tail_fields : List ℕ → List Entry
tail_fields letters = (Field.Filling, 0) ∷ numbered Field.NameByte 0 letters

abbrev pub fields : Contents → List Entry
fields c =
    count_fields (length c.sizes) (length c.tables)
    ++ (option_fields 0 c.sizes (map length c.names) ++ (tables_fields 0 0 c.tables ++ tail_fields (flat_map (λ n. n) c.names)))
