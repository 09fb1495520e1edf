-- The stores' steps leave one thing, as far as the boxes go that they hold.
use Rattle.std.proofs.Common.{◌≡◌, ℕ, List, ◌∷◌, take, set, Some, sym, ap, ◌∙◌, subst}
use Rattle.std.specs.List.{ContainsAt as Has}
use Rattle.grammar.specs.Contents.{Contents}
use Rattle.store.specs.Blank.{blank}
use Rattle.store.specs.Meaning.{Meaning}
use Rattle.store.specs.Ring.{ring, recent}
use Rattle.store.specs.Slots.{slotted, slots_of, slot_of, Lies}
use Rattle.store.specs.declared.blank.BlankStore.{BlankStore}
use Rattle.store.specs.declared.ring.RingStore.{RingStore}
use Rattle.store.specs.declared.slots.SlotStore.{SlotStore}
use Rattle.trials.specs.Trials.{Verdict, Asks}
use Rattle.worked_theorem.specs.Yields.{Yields}
use Rattle.worked_theorem.proofs.OneRun.{Steady, one_run}

abbrev pub AnyTwo : BlankStore → BlankStore → Type 0
AnyTwo s t = Unit {0}

pub blank_steady : Steady blank AnyTwo
blank_steady = record { there = λ r b h. h; back = λ r b h. h; looks = λ b r p q. tt; tells = λ b r p q. tt }

abbrev pub SameRecent : RingStore → RingStore → Type 0
SameRecent s t = recent s ≡ recent t

pub ring_steady : Steady ring SameRecent
ring_steady = record {
  there = λ r b h. subst (λ boxes. Has boxes b) r h;
  back = λ r b h. subst (λ boxes. Has boxes b) (sym r) h;
  looks = λ b r p q. ap recent p ∙ r ∙ sym (ap recent q);
  tells = λ b r p q. p ∙ ap (λ boxes. take 64 (b ∷ boxes)) r ∙ sym q;
}

abbrev pub SameSlots : SlotStore → SlotStore → Type 0
SameSlots s t = slots_of s ≡ slots_of t

pub slots_steady : Steady slotted SameSlots
slots_steady = record {
  there = λ r b h. subst (λ slots. Lies slots b) r h;
  back = λ r b h. subst (λ slots. Lies slots b) (sym r) h;
  looks = λ b r p q. ap slots_of p ∙ r ∙ sym (ap slots_of q);
  tells = λ b r p q. p.slots ∙ ap (λ slots. set slots (slot_of slots b) (Some b)) r ∙ sym q.slots;
}

-- one run tells of all
pub yields : (c : Contents) (S : Type 0) (m : Meaning S) (Alike : S → S → Type 0) → Steady m Alike → (budget : ℕ) (array : List ℕ) (s : S) (v : Verdict) (t : S) (n : ℕ) → Alike s s
    → Asks c S m (Some budget) array s v t n → Yields c S m budget array s v t n
yields c S m Alike steady budget array s v t n r run = record {
  run = run;
  only = λ w u k other. let e = one_run c S m (Some budget) Alike steady run r other in (e.verdict, e.count);
}
