-- Propagation: the largest sets inside given ones in which every value has support.
use Rattle.std.specs.Prelude.{◌≡◌, ℕ, ◌<◌, ◌≤◌, List, length, slice_index}
use Rattle.std.specs.List.{AllByRecursion}
use Rattle.grammar.specs.Contents.{Table, Contents}
use Rattle.values.specs.Members.{In}
use Rattle.propagate.specs.Sets.{Sets, Inside, sets_of}
use Rattle.propagate.specs.Support.{Mentions, Upheld, Closed}
use Rattle.propagate.specs.declared.outcome.Outcome.{Outcome}
use Rattle.propagate.specs.declared.outcome.Outcome.TheVariants.{Narrowed, Emptied}

-- the largest sets inside the start in which every value has support in every table whose scope has its option
pub record Largest (c : Contents) (start end : Sets) : Type 0 where
  pub inside : Inside end start
  pub closed : Closed c.tables end
  pub largest : (other : Sets) → Inside other start → Closed c.tables other → Inside other end

-- An array that holds them, none of them empty: the digits for values that an option lacks are gone, and the places of options that the book lacks are as they were.
pub record Propagated (c : Contents) (start end : List ℕ) : Type 0 where
  pub largest : Largest c (sets_of c start) (sets_of c end)
  pub some : (x : ℕ) → x < length c.sizes → 0 < slice_index end x
  pub exact : (x : ℕ) → x < length c.sizes → slice_index end x ≡ sets_of c end x
  pub rest : (x : ℕ) → length c.sizes ≤ x → slice_index end x ≡ slice_index start x

-- Some option of the book keeps no value: no sets inside the start in which every value has support give it one, so the largest do not.
abbrev pub LeavesNone : Contents → Sets → Type 0
LeavesNone c start =
    (x : ℕ) × (x < length c.sizes) × ((other : Sets) → Inside other start → Closed c.tables other → (v : ℕ) → In (other x) v → ⊥)

-- How propagation ends, and with what in the array; where it leaves an option no value, the array is as it was.
abbrev pub Ends : Contents → List ℕ → Outcome → List ℕ → Type 0
Ends c start Narrowed end = Propagated c start end
Ends c start Emptied end = LeavesNone c (sets_of c start) × (end ≡ start)

-- A set of options is a number, in which option x is worth 2 ^ x. The scope has none of these options.
abbrev pub Avoids : List ℕ → ℕ → Type 0
Avoids scope options = (x : ℕ) → Mentions scope x → In options x → ⊥

-- Only these options are left to look at: in every table whose scope has none of them, every value has support.
abbrev pub Settled : List Table → Sets → ℕ → Type 0
Settled tables sets pending = AllByRecursion (λ t. Avoids t.scope pending → Upheld t sets) tables
