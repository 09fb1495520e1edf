-- What an ask promises, whatever store it remembers by.
use Rattle.std.specs.Prelude.{◌≡◌, ℕ, ◌<◌, ◌≤◌, List, length, Some, Option, ◌≢◌}
use Rattle.grammar.specs.Contents.{Contents, Fit, Valid}
use Rattle.boxes.specs.declared.ValueBox.{ValueBox}
use Rattle.propagate.specs.Laws.{Within}
use Rattle.reduce.specs.Boxes.{Meets}
use Rattle.reduce.specs.Laws.{HasFit}
use Rattle.store.specs.Meaning.{Meaning, HoldsOnly}
use Rattle.trials.specs.Trials.{Verdict, refuted, found, stopped, Asks, Plain}

-- The plain ask has one result.
abbrev pub PlainHasOneResult : Type 0
PlainHasOneResult = (c : Contents) (array : List ℕ) (v w : Verdict) (n k : ℕ) → Plain c array v n → Plain c array w k → (v ≡ w) × (n ≡ k)

-- The plain ask ends, and not by stopping.
abbrev pub PlainAskEnds : Type 0
PlainAskEnds = (c : Contents) → Valid c → (array : List ℕ) → length array ≡ 24 → (v : Verdict) × (n : ℕ) × Plain c array v n × (v ≢ stopped)

-- The verdict is right: what is found is a fit of the book inside the sets, and where they are refuted none lies inside. It is not that the ask stopped.
abbrev pub Right : Contents → List ℕ → Verdict → Type 0
Right c array refuted = HasFit c array → ⊥
Right c array (found values) = Fit c values × Within c array values
Right c array stopped = ⊥

-- The plain ask is right.
abbrev pub PlainIsRight : Type 0
PlainIsRight = (c : Contents) → Valid c → (array : List ℕ) → length array ≡ 24 → (v : Verdict) (n : ℕ) → Plain c array v n → Right c array v

-- It finds a fit exactly where the book has one inside the sets.
abbrev pub PlainFindsIfAny : Type 0
PlainFindsIfAny =
    (c : Contents) → Valid c → (array : List ℕ) → length array ≡ 24 → (v : Verdict) (n : ℕ) → Plain c array v n
    → (HasFit c array → (values : List ℕ) × (v ≡ found values)) × (((values : List ℕ) × (v ≡ found values)) → HasFit c array)

-- No fit of the book meets the box.
abbrev pub Dead : Contents → ValueBox → Type 0
Dead c b = (values : List ℕ) → Fit c values → Meets b.sets values → ⊥

-- An ask that ended with the verdict v, the store t and n trials agrees with the plain ask's verdict w and k trials.
pub record Agrees (c : Contents) {S : Type 0} (m : Meaning S) (budget : Option ℕ) (v : Verdict) (t : S) (n : ℕ) (w : Verdict) (k : ℕ) : Type 0 where
  -- the store still holds dead boxes only
  pub dead : HoldsOnly m (Dead c) t
  -- unless it stopped, it has the plain ask's answer and values
  pub same : (v ≢ stopped) → v ≡ w
  -- it takes no more trials
  pub fewer : n ≤ k
  -- it stops only at its budget, where the plain ask takes more trials than that
  pub short : v ≡ stopped → (b : ℕ) × (budget ≡ Some b) × (n ≡ b) × (b < k)

-- Memory never loses a fit: an ask over a store of this type that holds dead boxes only agrees with the plain ask.
abbrev pub MemoryLosesNoFit : (S : Type 0) → Meaning S → Type 0
MemoryLosesNoFit S m =
    (c : Contents) → Valid c → (budget : Option ℕ) (array : List ℕ) → length array ≡ 24 → (s t : S) (v w : Verdict) (n k : ℕ)
    → HoldsOnly m (Dead c) s → Asks c S m budget array s v t n → Plain c array w k → Agrees c m budget v t n w k

-- So its answer is right.
abbrev pub AnswersAreRight : (S : Type 0) → Meaning S → Type 0
AnswersAreRight S m =
    (c : Contents) → Valid c → (budget : Option ℕ) (array : List ℕ) → length array ≡ 24 → (s t : S) (v : Verdict) (n : ℕ)
    → HoldsOnly m (Dead c) s → Asks c S m budget array s v t n → (v ≢ stopped) → Right c array v
