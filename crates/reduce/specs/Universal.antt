-- Tables that rule nothing out.
use Rattle.std.specs.Prelude.{ℕ, ◌*◌, ◌<◌, List, [], ◌∷◌, length, count_ones, slice_index_or}
use Rattle.std.specs.List.{AllByRecursion}
use Rattle.grammar.specs.Contents.{Table, Contents}
use Rattle.propagate.specs.Sets.{Sets}
use Rattle.propagate.specs.Support.{Mentions, Live, Allows}

-- A table is universal in some sets when it allows every combination of values from its scope's sets.
abbrev pub Universal : Sets → Table → Type 0
Universal sets t = (row : List ℕ) → Live sets t.scope row → Allows t row

-- Every table whose scope has the option is universal: so it is of an option in no table.
abbrev pub Free : Sets → List Table → ℕ → Type 0
Free sets tables x = AllByRecursion (λ t. Mentions t.scope x → Universal sets t) tables

-- how many combinations of values the scope's sets have
abbrev pub ways : Sets → List ℕ → ℕ
ways sets [] = 1
ways sets (x ∷ scope) = count_ones (sets x) * ways sets scope

-- The book has a table of this number, and it is universal in the sets.
abbrev pub UniversalAt : Contents → Sets → ℕ → Type 0
UniversalAt c sets i = (i < length c.tables) × Universal sets (slice_index_or c.tables i (record { scope = []; rows = [] }))
