-- What the steps of propagation promise one another.
use Rattle.std.specs.Prelude.{◌≡◌, ℕ, ◌+◌, ◌<◌, ◌≤◌, min, List, [], map, length, take, sum, slice_index, slice_index_or}
use Rattle.grammar.specs.Contents.{Table, Contents}
use Rattle.values.specs.Members.{In}
use Rattle.propagate.specs.Sets.{Sets, Inside, placed, sets_of}
use Rattle.propagate.specs.Support.{Mentions, Support, Upheld, Closed}
use Rattle.propagate.specs.Propagation.{Largest, Settled}

-- a scope and rows that a pass can read: the scope names options, and the places that it has in a row hold values
pub record Readable (scope : List ℕ) (rows : List (List ℕ)) : Type 0 where
  pub few : length scope ≤ 4
  pub known : (j : ℕ) → j < length scope → slice_index scope j < 24
  pub small : (r j : ℕ) → r < length rows → j < length scope → slice_index (slice_index_or rows r []) j < 32

-- the table whose rows are the first places of these
abbrev pub table_from : List ℕ → List (List ℕ) → Table
table_from scope rows = record { scope = scope; rows = map (take (length scope)) rows }

-- at each place of the scope, the values that have support there
pub record Collects (sets : Sets) (t : Table) (seen : List ℕ) : Type 0 where
  pub sound : (j v : ℕ) → j < length t.scope → In (slice_index seen j) v → Support sets t j v
  pub whole : (j v : ℕ) → j < length t.scope → Support sets t j v → In (slice_index seen j) v

-- A step towards sets with the property C, which changed these options: nothing is put in, nothing that sets with C have is taken away, and the sum of the sets falls where something changed.
pub record Cut (options : ℕ) (C : Sets → Type 0) (before after : List ℕ) (changed : ℕ) : Type 0 where
  pub smaller : Inside (placed after) (placed before)
  pub keeps : (other : Sets) → Inside other (placed before) → C other → Inside other (placed after)
  pub same : (x : ℕ) → (In changed x → ⊥) → slice_index after x ≡ slice_index before x
  pub known : (x : ℕ) → In changed x → x < options
  pub less : sum after + min changed 1 ≤ sum before

-- the step of one table: it changes no option but those of its scope, and where it changes none, every value has support in the table
pub record Revised (options : ℕ) (t : Table) (before after : List ℕ) (changed : ℕ) : Type 0 where
  pub cut : Cut options (Upheld t) before after changed
  pub within : (x : ℕ) → In changed x → Mentions t.scope x
  pub upheld : changed ≡ 0 → Upheld t (placed after)

-- a round over the tables: unless it empties a set, only what it changed is left to look at
pub record Rounded (c : Contents) (before after : List ℕ) (changed : ℕ) : Type 0 where
  pub cut : Cut (length c.sizes) (Closed c.tables) before after changed
  pub settled : ((x : ℕ) → x < length c.sizes → 0 < slice_index after x) → Settled c.tables (placed after) changed

-- only values of the book are left, at the places of its options
pub record Trimmed (c : Contents) (before after : List ℕ) : Type 0 where
  pub values : (x : ℕ) → x < length c.sizes → slice_index after x ≡ sets_of c before x
  pub rest : (x : ℕ) → length c.sizes ≤ x → slice_index after x ≡ slice_index before x

-- the largest closed sets, as they stand in the array, each with a value
pub record Reached (c : Contents) (before after : List ℕ) : Type 0 where
  pub largest : Largest c (placed before) (placed after)
  pub some : (x : ℕ) → x < length c.sizes → 0 < slice_index after x
  pub rest : (x : ℕ) → length c.sizes ≤ x → slice_index after x ≡ slice_index before x
