-- The asks in the book of three options that have to differ.
use Rattle.std.proofs.Common.{◌≡◌, ℕ, ◌≤◌, [], ◌∷◌, take, Some, sym, refl, ap, ◌∙◌, subst, arith, lit<}
use lib.Count.{ones, ones_in}
use Rattle.std.specs.List.{ContainsAt as Has}
use Rattle.propagate.specs.Propagation.{LeavesNone}
use Rattle.propagate.specs.Sets.{sets_of}
use Rattle.store.specs.Blank.{blank}
use Rattle.store.specs.Meaning.{Looked}
use Rattle.store.specs.Ring.{ring, recent}
use Rattle.store.specs.declared.blank.BlankStore.{BlankStore}
use Rattle.store.specs.declared.ring.RingStore.{RingStore}
use Rattle.store.proofs.Changes.{ring_grown}
use Rattle.store.proofs.Members.{has_first}
use Rattle.store.proofs.Steps.{blank_looked, blank_told}
use Rattle.trials.specs.Picks.{Picked}
use Rattle.trials.specs.Trials.{Verdict, refuted, stopped, Asks, Narrows, Boxed, Branches, cut_to, cut_from, spent, emptied, seen, right, both}
use Rattle.worked_theorem.specs.Yields.{Yields}
use Rattle.worked_theorem.specs.Books.{clash}
use Rattle.worked_theorem.specs.Clashing.{all, nothing, Unremembered, AskedTwice, Remembered}
use Rattle.worked_theorem.proofs.Pruning.{empties_so, narrowed_so}
use Rattle.worked_theorem.proofs.Picking.{picks_so}
use Rattle.worked_theorem.proofs.Boxing.{boxed_so}
use Rattle.worked_theorem.proofs.Tests.{unspent}
use Rattle.worked_theorem.proofs.OneRun.{one_run}
use Rattle.worked_theorem.proofs.Steadies.{AnyTwo, SameRecent, blank_steady, ring_steady, yields}

-- propagation leaves all values, the pick is the first of the first option, and the box records nothing
all_left : Narrows clash all all
all_left = narrowed_so clash 2 0 all all refl

pick : Picked clash all 0 0
unfolding ones ones_in
pick = picks_so clash all 0 0 refl

box : Boxed clash all nothing
box = boxed_so clash all nothing refl refl

-- both halves are refuted
first_half : LeavesNone clash (sets_of clash (cut_to all 0 0))
first_half = empties_so clash 2 1 2 (cut_to all 0 0) refl

second_half : LeavesNone clash (sets_of clash (cut_from all 0 0))
second_half = empties_so clash 2 1 2 (cut_from all 0 0) refl

-- ---- without memory

branches : Branches clash blank all (record {}) all nothing 0 0 (record {})
branches = record { narrows = all_left; picked = pick; boxed = box; fresh = λ h. h; looked = blank_looked (record {}) nothing }

always : (budget : ℕ) (v : Verdict) (n : ℕ) → Asks clash BlankStore blank (Some budget) all (record {}) v (record {}) n → Yields clash BlankStore blank budget all (record {}) v (record {}) n
always budget v n run = yields clash BlankStore blank AnyTwo blank_steady budget all (record {}) v (record {}) n tt run

pub unremembered : Unremembered
unremembered = record {
  stops = always 2 stopped 2 (right (unspent 2 0 (lit< tt)) branches (emptied (unspent 2 1 (lit< tt)) first_half) (spent refl) tt);
  ends = always 3 refuted 3 (both (unspent 3 0 (lit< tt)) branches (emptied (unspent 3 1 (lit< tt)) first_half) (emptied (unspent 3 2 (lit< tt)) second_half) (blank_told (record {}) nothing));
}

-- ---- with a ring

module _ (budget : ℕ) (enough : 3 ≤ budget) (s t : RingStore) (before : recent s ≡ []) (after : recent t ≡ nothing ∷ []) where
  none_yet : Has (recent s) nothing → ⊥
  none_yet h = let r = subst (λ boxes. Has boxes nothing) before h in omega (arith, r.1)

  now_held : Has (recent t) nothing
  now_held = subst (λ boxes. Has boxes nothing) (sym after) (has_first nothing [])

  change : recent t ≡ take 64 (nothing ∷ recent s)
  change = after ∙ sym (ap (λ boxes. take 64 (nothing ∷ boxes)) before)

  unchanged : (r : RingStore) → Looked ring r nothing r
  unchanged r = record { change = refl; same = λ x. ((λ h. h), (λ h. h)) }

  run : Asks clash RingStore ring (Some budget) all s refuted t 3
  run =
      both (unspent budget 0 (omega arith))
      (record { narrows = all_left; picked = pick; boxed = box; fresh = none_yet; looked = unchanged s })
      (emptied (unspent budget 1 (omega arith)) first_half) (emptied (unspent budget 2 (omega arith)) second_half)
      (record { change = change; grown = ring_grown s t nothing change })

  run_again : Asks clash RingStore ring (Some budget) all t refuted t 1
  run_again = seen (unspent budget 0 (omega arith)) all_left pick box now_held (unchanged t)

  asked_twice : AskedTwice budget s t
  asked_twice = record {
    first = yields clash RingStore ring SameRecent ring_steady budget all s refuted t 3 refl run;
    leaves = λ v u n other. sym (one_run clash RingStore ring (Some budget) SameRecent ring_steady run refl other).store ∙ after;
    again = yields clash RingStore ring SameRecent ring_steady budget all t refuted t 1 refl run_again;
  }

pub remembered : Remembered
remembered = record { box = box; twice = asked_twice; bare = refl; step = record { places = refl; next = refl; full = refl }; told = refl }
