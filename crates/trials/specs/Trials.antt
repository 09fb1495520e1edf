-- The ask: trials that branch, with a memory of refuted boxes and a budget.
use Rattle.std.specs.Prelude.{◌≡◌, ℕ, ◌+◌, ◌-◌, ◌^◌, List, length, Some, None, Option, slice_index, slice_set}
use Rattle.grammar.specs.Contents.{Contents}
use Rattle.boxes.specs.declared.ValueBox.{ValueBox}
use Rattle.propagate.specs.Sets.{sets_of}
use Rattle.propagate.specs.Propagation.{Propagated, LeavesNone}
use Rattle.reduce.specs.Boxes.{BoxOf}
use Rattle.store.specs.Meaning.{Meaning, Looked, Told}
use Rattle.store.specs.Blank.{blank}
use Rattle.store.specs.declared.blank.BlankStore.{BlankStore}
use Rattle.trials.specs.Picks.{Picked, Single}

-- how a trial ends: refuted, with a fit found below it, or stopped
pub data Verdict : Type 0 where
  refuted : Verdict
  found : List ℕ → Verdict
  stopped : Verdict

-- a trial that ends the whole ask
abbrev pub Over : Verdict → Type 0
Over refuted = ⊥
Over (found values) = Unit {0}
Over stopped = Unit {0}

-- A budget is a number of trials; none is no limit. It is spent when as many trials have begun.
abbrev pub Spent : Option ℕ → ℕ → Type 0
Spent None count = ⊥
Spent (Some budget) count = count ≡ budget

abbrev pub Unspent : Option ℕ → ℕ → Type 0
Unspent budget count = Spent budget count → ⊥

-- what propagation leaves of an array of sets, if no set is empty
pub record Narrows (c : Contents) (start next : List ℕ) : Type 0 where
  pub propagated : Propagated c start next
  pub long : length next ≡ length start

-- the box of an array of sets, which has a place for each of 24 options
pub record Boxed (c : Contents) (array : List ℕ) (b : ValueBox) : Type 0 where
  pub box : BoxOf c array b.sets
  pub long : length b.sets ≡ 24

-- the sets of a left trial, with one value for the picked option, and those of a right trial, without that value
abbrev pub cut_to : List ℕ → ℕ → ℕ → List ℕ
cut_to array option value = slice_set array option (2 ^ value)

abbrev pub cut_from : List ℕ → ℕ → ℕ → List ℕ
cut_from array option value = slice_set array option (slice_index array option - 2 ^ value)

-- An array is branched on: propagation leaves these sets, some with more than one value, the pick is this option and value,
-- and the store, asked for their box, does not hold it.
pub record Branches (c : Contents) {S : Type 0} (m : Meaning S) (array : List ℕ) (s : S) (next : List ℕ) (b : ValueBox) (option value : ℕ) (t : S) : Type 0 where
  pub narrows : Narrows c array next
  pub picked : Picked c next option value
  pub boxed : Boxed c next b
  pub fresh : m.held s b → ⊥
  pub looked : Looked m s b t

-- A trial on an array of sets, with a store s and after so many trials: its verdict, and the store and the number of trials at its end.
pub data Trial (c : Contents) (S : Type 0) (m : Meaning S) (budget : Option ℕ) : List ℕ → S → ℕ → Verdict → S → ℕ → Type 0 where
  -- it is due, and the budget is spent
  spent : {array : List ℕ} {s : S} {n : ℕ} → Spent budget n → Trial c S m budget array s n stopped s n
  -- an option has no value left
  emptied : {array : List ℕ} {s : S} {n : ℕ} → Unspent budget n → LeavesNone c (sets_of c array) → Trial c S m budget array s n refuted s (n + 1)
  -- each option has one value left: these are the fit
  settled : {array next values : List ℕ} {s : S} {n : ℕ} → Unspent budget n → Narrows c array next → Single c next values → Trial c S m budget array s n (found values) s (n + 1)
  -- some option has more, and the store has seen the box
  seen : {array next : List ℕ} {option value : ℕ} {b : ValueBox} {s t : S} {n : ℕ} → Unspent budget n → Narrows c array next → Picked c next option value → Boxed c next b
      → m.held s b → Looked m s b t → Trial c S m budget array s n refuted t (n + 1)
  -- the left trial ends the ask
  left : {array next : List ℕ} {option value k n : ℕ} {b : ValueBox} {s t u : S} {v : Verdict} → Unspent budget n → Branches c m array s next b option value t
      → Trial c S m budget (cut_to next option value) t (n + 1) v u k → Over v → Trial c S m budget array s n v u k
  -- the left trial is refuted, and the right trial ends the ask
  right : {array next : List ℕ} {option value j k n : ℕ} {b : ValueBox} {s t u w : S} {v : Verdict} → Unspent budget n → Branches c m array s next b option value t
      → Trial c S m budget (cut_to next option value) t (n + 1) refuted u k → Trial c S m budget (cut_from next option value) u k v w j → Over v → Trial c S m budget array s n v w j
  -- both are refuted, and only then is the store told the box
  both : {array next : List ℕ} {option value j k n : ℕ} {b : ValueBox} {s t u w z : S} → Unspent budget n → Branches c m array s next b option value t
      → Trial c S m budget (cut_to next option value) t (n + 1) refuted u k → Trial c S m budget (cut_from next option value) u k refuted w j → Told m w b z
      → Trial c S m budget array s n refuted z j

-- The ask is one trial on the starting sets, before which none has begun.
abbrev pub Asks : (c : Contents) (S : Type 0) (m : Meaning S) → Option ℕ → List ℕ → S → Verdict → S → ℕ → Type 0
Asks c S m budget array s v t n = Trial c S m budget array s 0 v t n

-- The plain ask has no memory and no budget.
abbrev pub Plain : Contents → List ℕ → Verdict → ℕ → Type 0
Plain c array v n = Asks c BlankStore blank None array (record {}) v (record {}) n
