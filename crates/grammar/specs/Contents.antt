-- What a book says: options with their sizes and names, and tables of allowed rows. Options, values, tables and places are numbered from 0.
use Rattle.std.specs.Prelude.{◌≡◌, ℕ, ◌<◌, ◌≤◌, List, [], map, length, sum, ◌≢◌, slice_index, slice_index_or}
use Rattle.std.specs.List.{AllByRecursion}

-- A table. Its scope is the options that it speaks of, in rising order; a row gives a value for each of them.
pub record Table : Type 0 where
  pub scope : List ℕ
  pub rows : List (List ℕ)

-- The size of an option is how many values it has.
pub record Contents : Type 0 where
  pub sizes : List ℕ
  pub names : List (List ℕ)
  pub tables : List Table

-- a row stands among those listed
abbrev pub Listed : List (List ℕ) → List ℕ → Type 0
Listed rows row = (i : ℕ) × (i < length rows) × (slice_index_or rows i [] ≡ row)

-- the values that a list of values, one for each option, gives to a scope
abbrev pub on_scope : List ℕ → List ℕ → List ℕ
on_scope values scope = map (λ x. slice_index values x) scope

-- A fit gives each option one of its values, so that in each table the values of the scope are a listed row.
pub record Fit (c : Contents) (values : List ℕ) : Type 0 where
  pub each : length values ≡ length c.sizes
  pub within : (x : ℕ) → x < length c.sizes → slice_index values x < slice_index c.sizes x
  pub listed : AllByRecursion (λ t. Listed t.rows (on_scope values t.scope)) c.tables

-- a table of a book whose options have these sizes
pub record ValidTable (sizes : List ℕ) (t : Table) : Type 0 where
  pub some : 1 ≤ length t.scope
  pub few : length t.scope ≤ 4
  pub known : (j : ℕ) → j < length t.scope → slice_index t.scope j < length sizes
  pub rising : (i j : ℕ) → i < j → j < length t.scope → slice_index t.scope i < slice_index t.scope j
  pub long : (r : ℕ) → r < length t.rows → length (slice_index_or t.rows r []) ≡ length t.scope
  pub values : (r j : ℕ) → r < length t.rows → j < length t.scope → slice_index (slice_index_or t.rows r []) j < slice_index sizes (slice_index t.scope j)
  pub apart : (q r : ℕ) → q < r → r < length t.rows → slice_index_or t.rows q [] ≢ slice_index_or t.rows r []
  pub short : length t.rows ≤ 1024

-- what holds of every book
pub record Valid (c : Contents) : Type 0 where
  pub some : 1 ≤ length c.sizes
  pub few : length c.sizes ≤ 24
  pub named : length c.names ≡ length c.sizes
  pub sized : AllByRecursion (λ s. (1 ≤ s) × (s ≤ 32)) c.sizes
  pub tabled : length c.tables ≤ 48
  pub tables : AllByRecursion (ValidTable c.sizes) c.tables
  pub short : sum (map (λ t. length t.rows) c.tables) ≤ 8192
