-- The meaning of the store that holds the boxes of the last 64 tells.
use Rattle.std.specs.Prelude.{◌≡◌, ℕ, ◌+◌, Bool, true, cond, List, [], ◌∷◌, ◌++◌, reverse, take, drop, ◌==◌, slice_set}
use Rattle.std.specs.List.{ContainsAt as Has}
use Rattle.boxes.specs.declared.ValueBox.{ValueBox}
use Rattle.store.specs.declared.ring.RingStore.{RingStore}
use Rattle.store.specs.Meaning.{Meaning}

-- What lies in the places of a ring, the one put last first: those before the next place to be filled and,
-- once every place has been filled, those from there on.
abbrev pub newest_first : {X : Type 0} → List X → ℕ → Bool → List X
newest_first places next full = reverse (take next places) ++ cond full (reverse (drop next places)) []

abbrev pub recent : RingStore → List ValueBox
recent r = newest_first r.places r.next r.full

-- how many of the places, from the first on, have a box of those
abbrev pub filled : RingStore → ℕ
filled r = cond r.full 64 r.next

-- a box put at the next place, and what each field is then: past the last place comes the first, and the ring is full
pub record Put (s : RingStore) (b : ValueBox) (t : RingStore) : Type 0 where
  pub places : t.places ≡ slice_set s.places s.next b
  pub next : t.next ≡ cond (s.next + 1 == 64) 0 (s.next + 1)
  pub full : t.full ≡ cond (s.next + 1 == 64) true s.full

-- a told box comes in front, and of 64 boxes and one more the earliest told goes
abbrev pub ring : Meaning RingStore
ring = record {
  held = λ r x. Has (recent r) x;
  emptied = λ s t. recent t ≡ [];
  looked = λ s _ t. t ≡ s;
  told = λ s b t. recent t ≡ take 64 (b ∷ recent s);
}
