-- Tables that leave out a combination, and tables without rows.
use Rattle.std.specs.Prelude.{◌≡◌, ℕ, ◌<◌, ◌⊎◌, List, [], ◌∷◌}
use Rattle.grammar.specs.Contents.{Table, Contents, Valid}
use Rattle.propagate.specs.Sets.{Sets, placed}
use Rattle.propagate.specs.Support.{Live, Allows}
use Rattle.reduce.specs.Universal.{Universal}
use Rattle.store.specs.Blank.{blank}
use Rattle.store.specs.Meaning.{Meaning}
use Rattle.store.specs.Ring.{ring}
use Rattle.store.specs.Slots.{slotted}
use Rattle.store.specs.declared.blank.BlankStore.{BlankStore}
use Rattle.store.specs.declared.ring.RingStore.{RingStore}
use Rattle.store.specs.declared.slots.SlotStore.{SlotStore}
use Rattle.trials.specs.Trials.{refuted}
use Rattle.worked_theorem.specs.Books.{array_of, rowless}
use Rattle.worked_theorem.specs.Yields.{Yields}

-- three options: one value of the first is left, and two of each other
abbrev pub three_sets : Sets
three_sets = placed (1 ∷ 3 ∷ 3 ∷ [])

-- a table on these options, with these rows
abbrev pub on_three : List (List ℕ) → Table
on_three rows = record { scope = 0 ∷ 1 ∷ 2 ∷ []; rows = rows }

-- the live rows are 000 and 011
abbrev pub LiveTwo : List (List ℕ) → Type 0
LiveTwo rows =
    (row : List ℕ)
    → (Allows (on_three rows) row × Live three_sets (0 ∷ 1 ∷ 2 ∷ []) row → (row ≡ 0 ∷ 0 ∷ 0 ∷ []) ⊎ (row ≡ 0 ∷ 1 ∷ 1 ∷ []))
    × ((row ≡ 0 ∷ 0 ∷ 0 ∷ []) ⊎ (row ≡ 0 ∷ 1 ∷ 1 ∷ []) → Allows (on_three rows) row × Live three_sets (0 ∷ 1 ∷ 2 ∷ []) row)

-- Two live rows are not all four combinations.
pub record TwoOfFour : Type 0 where
  -- a table that lists just these two has these live rows
  pub just_two : LiveTwo ((0 ∷ 0 ∷ 0 ∷ []) ∷ (0 ∷ 1 ∷ 1 ∷ []) ∷ [])
  -- and no table with these live rows is universal, whatever else it lists
  pub not_universal : (rows : List (List ℕ)) → LiveTwo rows → Universal three_sets (on_three rows) → ⊥

-- In a book with one table, which lists no row, an ask is refuted by its first trial, whatever sets it starts with, and leaves the store as it was.
abbrev pub NoneAtOnce : (S : Type 0) → Meaning S → Type 0
NoneAtOnce S m =
    (c : Contents) → Valid c → (t : Table) → c.tables ≡ t ∷ [] → t.rows ≡ [] → (array : List ℕ) (s : S) (budget : ℕ) → 0 < budget
    → Yields c S m budget array s refuted s 1

pub record NoRows : Type 0 where
  -- the ask in such a book
  pub here : Yields rowless BlankStore blank 1 (array_of (3 ∷ [])) (record {}) refuted (record {}) 1
  -- and in any, with each of the stores
  pub with_blank : NoneAtOnce BlankStore blank
  pub with_ring : NoneAtOnce RingStore ring
  pub with_slots : NoneAtOnce SlotStore slotted
