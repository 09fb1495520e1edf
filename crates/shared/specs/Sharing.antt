-- What two people can rely on who share one sheet, its book and its store.
use Rattle.std.specs.Prelude.{◌≡◌, ℕ, ◌<◌, ◌≤◌, List, ◌≢◌}
use Rattle.grammar.specs.Contents.{Contents, Fit}
use Rattle.store.specs.Meaning.{Meaning, HoldsOnly}
use Rattle.trials.specs.Trials.{Verdict, refuted, found, stopped, Plain}
use Rattle.trials.specs.Laws.{Dead}
use Rattle.sheet.specs.Starts.{Standing, Starts, MeetsAll}
use Rattle.sheet.specs.Runs.{Call, Keeps}

-- After these calls, the last of which comes first, the sheet keeps what they leave standing, and no fit of the book meets a box that the store holds.
pub record After (c : Contents) {S : Type 0} (m : Meaning S) (calls : List Call) (sets : List ℕ) (s : S) : Type 0 where
  pub keeps : Keeps c calls sets
  pub dead : HoldsOnly m (Dead c) s

-- A verdict is right for what stands: what is found is a fit of the book that meets every standing decision; where all is refuted there is none.
abbrev pub RightFor : Contents → Standing → Verdict → Type 0
RightFor c stands refuted = (values : List ℕ) → Fit c values → MeetsAll c stands values → ⊥
RightFor c stands (found values) = Fit c values × MeetsAll c stands values
RightFor c stands stopped = ⊥

-- An ask that ended with the verdict v after n trials agrees with a plain ask that ended with w after k.
pub record AgreesWith (budget : ℕ) (v : Verdict) (n : ℕ) (w : Verdict) (k : ℕ) : Type 0 where
  -- unless it stopped, the answers and their values are the same
  pub same : (v ≢ stopped) → v ≡ w
  -- it took no more trials
  pub fewer : n ≤ k
  -- it stopped only at a budget that is smaller than the plain ask's count
  pub short : v ≡ stopped → budget < k

-- What an ask promises where these decisions stand.
pub record Promised (c : Contents) (stands : Standing) (budget : ℕ) (v : Verdict) (n : ℕ) : Type 0 where
  -- unless it stopped, it answers fit exactly when the book has a fit that meets every standing decision
  pub right : (v ≢ stopped) → RightFor c stands v
  -- the plain ask, with the same standing decisions, no memory and no budget, ends, and not by stopping
  pub plain : (array : List ℕ) × (w : Verdict) × (k : ℕ) × Starts c stands array × Plain c array w k × (w ≢ stopped)
  -- and it agrees with this one
  pub agrees : (array : List ℕ) → Starts c stands array → (w : Verdict) (k : ℕ) → Plain c array w k → AgreesWith budget v n w k
