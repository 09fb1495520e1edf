-- The meaning of the store over a slice of slots.
use Rattle.std.specs.Prelude.{◌≡◌, ℕ, ◌%◌, List, length, replicate, Some, None, Option, slice_index_or, slice_set}
use Rattle.boxes.specs.declared.ValueBox.{ValueBox}
use Rattle.store.specs.declared.slots.SlotStore.{SlotStore}
use Rattle.store.specs.Key.{key}
use Rattle.store.specs.Meaning.{Meaning}

-- the slots of a store, each vacant or with one box
abbrev pub slots_of : SlotStore → List (Option ValueBox)
slots_of s = s.slots.now

-- the slot that a box's key names: its remainder by the number of slots
abbrev pub slot_of : List (Option ValueBox) → ValueBox → ℕ
slot_of slots x = key x.sets % length slots

-- a box lies in the slot that its key names
abbrev pub Lies : List (Option ValueBox) → ValueBox → Type 0
Lies slots x = slice_index_or slots (slot_of slots x) None ≡ Some x

-- the store t lies over the same slice as s, in which the slots are now these
pub record Now (s t : SlotStore) (these : List (Option ValueBox)) : Type 0 where
  pub slots : slots_of t ≡ these
  pub slice : t.slots.ghost_name ≡ s.slots.ghost_name

-- A told box is put into the slot that its key names, whatever lay there before.
abbrev pub slotted : Meaning SlotStore
slotted = record {
  held = λ s x. Lies (slots_of s) x;
  emptied = λ s t. Now s t (replicate (length (slots_of s)) None);
  looked = λ s _ t. t ≡ s;
  told = λ s b t. Now s t (slice_set (slots_of s) (slot_of (slots_of s) b) (Some b));
}
