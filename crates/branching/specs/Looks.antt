-- What a trial is once its sets are propagated and their box is looked for.
use Rattle.std.specs.Prelude.{◌≡◌, ℕ, ◌<◌, Bool, List, length, Decides}
use Rattle.grammar.specs.Contents.{Contents}
use Rattle.boxes.specs.declared.ValueBox.{ValueBox}
use Rattle.propagate.specs.Sets.{sets_of}
use Rattle.propagate.specs.Propagation.{LeavesNone}
use Rattle.store.specs.Meaning.{Meaning, Looked, Told}
use Rattle.trials.specs.Picks.{size_at, Picked}
use Rattle.trials.specs.Trials.{Narrows, Boxed, Branches}
use Rattle.branching.specs.declared.kinds.Look.{Look}
use Rattle.branching.specs.declared.kinds.Look.TheVariants.{Refuted, Settled, Open}

-- refuted at once: some option has no value left, or the store has seen the box
pub data AtOnce (c : Contents) {S : Type 0} (m : Meaning S) (array : List ℕ) (s : S) : S → Type 0 where
  no_value : LeavesNone c (sets_of c array) → AtOnce c m array s s
  seen_box : {next : List ℕ} {option value : ℕ} {b : ValueBox} {t : S} → Narrows c array next → Picked c next option value → Boxed c next b
      → m.held s b → Looked m s b t → AtOnce c m array s t

-- each option has one value
abbrev pub AllOne : Contents → List ℕ → Type 0
AllOne c array = (x : ℕ) → x < length c.sizes → size_at array x ≡ 1

-- the look at an array with a store, which it leaves as t
abbrev pub Looks : (c : Contents) {S : Type 0} (m : Meaning S) → List ℕ → S → S → Look → Type 0
Looks c m array s t Refuted = AtOnce c m array s t
Looks c m array s t (Settled next) = Narrows c array next.sets × AllOne c next.sets × (t ≡ s)
Looks c m array s t (Open next option value) = (b : ValueBox) × Branches c m array s next.sets b option value t

-- the store is told the box of the array
abbrev pub Notes : (c : Contents) {S : Type 0} (m : Meaning S) → List ℕ → S → S → Type 0
Notes c m array s t = (b : ValueBox) × Boxed c array b × Told m s b t

-- the store is asked for the box of the array, and answers r
abbrev pub Sought : (c : Contents) {S : Type 0} (m : Meaning S) → List ℕ → S → S → Bool → Type 0
Sought c m array s t r = (b : ValueBox) × Boxed c array b × Decides r (m.held s b) × Looked m s b t
