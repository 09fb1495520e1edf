-- The book of three options that have to differ, with two values for each: its asks find none.
use Rattle.std.specs.Prelude.{◌≡◌, ℕ, ◌≤◌, false, List, [], ◌∷◌, replicate, Some}
use Rattle.std.proofs.Common.{lit<}
use Rattle.boxes.specs.declared.ValueBox.{ValueBox}
use Rattle.store.specs.Blank.{blank}
use Rattle.store.specs.Ring.{ring, recent, Put}
use Rattle.store.specs.declared.blank.BlankStore.{BlankStore}
use Rattle.store.specs.declared.ring.RingStore.{RingStore}
use Rattle.trials.specs.Trials.{Verdict, refuted, stopped, Boxed, Asks}
use Rattle.worked_theorem.specs.Books.{array_of, clash}
use Rattle.worked_theorem.specs.Yields.{Yields}

-- all values of the three options
abbrev pub all : List ℕ
all = array_of (3 ∷ 3 ∷ 3 ∷ [])

-- a box that records no option
abbrev pub nothing : ValueBox
nothing = record { sets = replicate 24 0 }

-- without memory, with a budget of two trials and of three
pub record Unremembered : Type 0 where
  pub stops : Yields clash BlankStore blank 2 all (record {}) stopped (record {}) 2
  pub ends : Yields clash BlankStore blank 3 all (record {}) refuted (record {}) 3

-- An ask that takes three trials, and the same ask with the ring that it left, which takes one.
-- However the first is run, the ring that it leaves holds just the box that records nothing.
pub record AskedTwice (budget : ℕ) (s t : RingStore) : Type 0 where
  pub first : Yields clash RingStore ring budget all s refuted t 3
  pub leaves : (v : Verdict) (u : RingStore) (n : ℕ) → Asks clash RingStore ring (Some budget) all s v u n → recent u ≡ nothing ∷ []
  pub again : Yields clash RingStore ring budget all t refuted t 1

-- a ring as it is made, and with a box put into it
abbrev pub made : RingStore
made = record { places = replicate 64 nothing; next = 0; full = false; within = lit< tt }

abbrev pub put : RingStore
put = record { places = replicate 64 nothing; next = 1; full = false; within = lit< tt }

pub record Remembered : Type 0 where
  -- the box of all values records nothing, since each set is whole
  pub box : Boxed clash all nothing
  -- With a ring that holds nothing the ask takes three trials, and leaves a ring that holds this box. Asked again, with that ring, it takes one.
  pub twice : (budget : ℕ) → 3 ≤ budget → (s t : RingStore) → recent s ≡ [] → recent t ≡ nothing ∷ [] → AskedTwice budget s t
  -- a ring just made holds nothing, and with the box put into it just the box
  pub bare : recent made ≡ []
  pub step : Put made nothing put
  pub told : recent put ≡ nothing ∷ []
