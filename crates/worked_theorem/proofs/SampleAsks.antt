-- The asks about the sample book, over a slot store that holds nothing.
use Rattle.std.proofs.Common.{◌≡◌, ℕ, List, [], ◌∷◌, replicate, Some, None, refl, lit<}
use lib.Count.{ones, ones_in}
use Rattle.store.specs.Meaning.{Looked}
use Rattle.store.specs.Slots.{slotted, slots_of}
use Rattle.store.specs.declared.slots.SlotStore.{SlotStore}
use Rattle.store.proofs.Changes.{slots_nothing}
use Rattle.trials.specs.Picks.{Picked}
use Rattle.trials.specs.Trials.{refuted, found, stopped, Narrows, Boxed, Branches, Asks, spent, emptied, settled, left}
use Rattle.worked_theorem.specs.Books.{array_of, sample}
use Rattle.worked_theorem.specs.Clashing.{nothing}
use Rattle.worked_theorem.proofs.Pruning.{empties_so, narrowed_so}
use Rattle.worked_theorem.proofs.Picking.{picks_so, is_single_so}
use Rattle.worked_theorem.proofs.Boxing.{boxed_so}
use Rattle.worked_theorem.proofs.Tests.{unspent}

-- the sets of gate, divider and stand
abbrev pub three : ℕ → ℕ → ℕ → List ℕ
three gate divider stand = array_of (gate ∷ divider ∷ stand ∷ [])

whole_pick : Picked sample (three 7 3 3) 1 0
unfolding ones ones_in
whole_pick = picks_so sample (three 7 3 3) 1 0 refl

divided_pick : Picked sample (three 3 1 3) 0 0
unfolding ones ones_in
divided_pick = picks_so sample (three 3 1 3) 0 0 refl

gated_pick : Picked sample (three 1 1 3) 2 0
unfolding ones ones_in
gated_pick = picks_so sample (three 1 1 3) 2 0 refl

standing_pick : Picked sample (three 3 1 1) 0 0
unfolding ones ones_in
standing_pick = picks_so sample (three 3 1 1) 0 0 refl

module _ (s : SlotStore) (vacant : slots_of s ≡ replicate 256 None) where
  looked : Looked slotted s nothing s
  looked = record { change = refl; same = λ x. ((λ h. h), (λ h. h)) }

  fresh : slotted.held s nothing → ⊥
  fresh = slots_nothing (slots_of s) 256 (lit< tt) vacant nothing

  -- a trial whose sets have the box that records nothing
  branching : (array next : List ℕ) (option value : ℕ) → Narrows sample array next → Picked sample next option value → Boxed sample next nothing → Branches sample slotted array s next nothing option value s
  branching array next option value p q b = record { narrows = p; picked = q; boxed = b; fresh = fresh; looked = looked }

  -- nothing stands: divider, gate and stand are picked in turn
  pub all_free : Asks sample SlotStore slotted (Some 100) (three 7 3 3) s (found (0 ∷ 0 ∷ 0 ∷ [])) s 4
  all_free =
      left (unspent 100 0 (lit< tt)) (branching (three 7 3 3) (three 7 3 3) 1 0 (narrowed_so sample 3 0 (three 7 3 3) (three 7 3 3) refl) whole_pick (boxed_so sample (three 7 3 3) nothing refl refl))
      (left (unspent 100 1 (lit< tt)) (branching (three 7 1 3) (three 3 1 3) 0 0 (narrowed_so sample 3 1 (three 7 1 3) (three 3 1 3) refl) divided_pick (boxed_so sample (three 3 1 3) nothing refl refl))
      (left (unspent 100 2 (lit< tt)) (branching (three 1 1 3) (three 1 1 3) 2 0 (narrowed_so sample 3 0 (three 1 1 3) (three 1 1 3) refl) gated_pick (boxed_so sample (three 1 1 3) nothing refl refl))
      (settled (unspent 100 3 (lit< tt)) (narrowed_so sample 3 0 (three 1 1 1) (three 1 1 1) refl) (is_single_so sample (three 1 1 1) (0 ∷ 0 ∷ 0 ∷ []) refl)) tt) tt) tt

  -- the gate is fixed to its last value
  pub gate_fixed : Asks sample SlotStore slotted (Some 100) (three 4 3 3) s (found (2 ∷ 1 ∷ 1 ∷ [])) s 1
  gate_fixed = settled (unspent 100 0 (lit< tt)) (narrowed_so sample 3 1 (three 4 3 3) (three 4 2 2) refl) (is_single_so sample (three 4 2 2) (2 ∷ 1 ∷ 1 ∷ []) refl)

  -- and the stand's second value is barred
  pub both_decided : Asks sample SlotStore slotted (Some 100) (three 4 3 1) s refuted s 1
  both_decided = emptied (unspent 100 0 (lit< tt)) (empties_so sample 3 2 1 (three 4 3 1) refl)

  -- the bar alone stands
  barred : Branches sample slotted (three 7 3 1) s (three 3 1 1) nothing 0 0 s
  barred = branching (three 7 3 1) (three 3 1 1) 0 0 (narrowed_so sample 3 2 (three 7 3 1) (three 3 1 1) refl) standing_pick (boxed_so sample (three 3 1 1) nothing refl refl)

  pub stand_barred_short : Asks sample SlotStore slotted (Some 1) (three 7 3 1) s stopped s 1
  stand_barred_short = left (unspent 1 0 (lit< tt)) barred (spent refl) tt

  pub stand_barred : Asks sample SlotStore slotted (Some 2) (three 7 3 1) s (found (0 ∷ 0 ∷ 0 ∷ [])) s 2
  stand_barred =
      left (unspent 2 0 (lit< tt)) barred
      (settled (unspent 2 1 (lit< tt)) (narrowed_so sample 3 0 (three 1 1 1) (three 1 1 1) refl) (is_single_so sample (three 1 1 1) (0 ∷ 0 ∷ 0 ∷ []) refl)) tt
