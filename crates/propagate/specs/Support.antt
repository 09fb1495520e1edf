-- Live rows, and the values that have support.
use Rattle.std.specs.Prelude.{◌≡◌, ℕ, ◌/◌, ◌%◌, ◌^◌, ◌<◌, Bool, true, false, ◌&&◌, List, [], ◌∷◌, length, ◌==◌, slice_index}
use Rattle.std.specs.List.{AllZip, AllByRecursion}
use Rattle.grammar.specs.Contents.{Table, Listed}
use Rattle.values.specs.Members.{In}
use Rattle.propagate.specs.Sets.{Sets}

-- the scope has the option
abbrev pub Mentions : List ℕ → ℕ → Type 0
Mentions scope x = (j : ℕ) × (j < length scope) × (slice_index scope j ≡ x)

-- A row is live when each of its values is in its option's set.
abbrev pub Live : Sets → List ℕ → List ℕ → Type 0
Live sets scope row = AllZip (λ x v. In (sets x) v) scope row

-- A table allows the rows that it lists.
abbrev pub Allows : Table → List ℕ → Type 0
Allows t row = Listed t.rows row

-- A value has support in a table, at the place j of its scope, when a live row that the table allows holds it there.
abbrev pub Support : Sets → Table → ℕ → ℕ → Type 0
Support sets t j v = (row : List ℕ) × Allows t row × Live sets t.scope row × (slice_index row j ≡ v)

-- every value of the scope's sets has support in the table
abbrev pub Upheld : Table → Sets → Type 0
Upheld t sets = (j v : ℕ) → j < length t.scope → In (sets (slice_index t.scope j)) v → Support sets t j v

-- every value has support in every table whose scope has its option
abbrev pub Closed : List Table → Sets → Type 0
Closed tables sets = AllByRecursion (λ t. Upheld t sets) tables

-- Live as a test, to count by
abbrev pub is_in : ℕ → ℕ → Bool
is_in s v = s / 2 ^ v % 2 == 1

abbrev pub is_live : Sets → List ℕ → List ℕ → Bool
is_live sets [] [] = true
is_live sets [] (v ∷ row) = false
is_live sets (x ∷ scope) [] = false
is_live sets (x ∷ scope) (v ∷ row) = is_in (sets x) v && is_live sets scope row
