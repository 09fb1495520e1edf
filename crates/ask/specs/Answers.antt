-- What an answer stands for, and its word.
use Rattle.std.specs.Prelude.{◌≡◌, ℕ, ◌≤◌, List, codes, slice_index}
use Rattle.trials.specs.Trials.{Verdict, found, refuted, stopped}
use Rattle.ask.specs.declared.kinds.Answer.{Answer}
use Rattle.ask.specs.declared.kinds.Answer.TheVariants.{Fit, None, Stopped}

-- the verdict that an answer stands for, where these values were found
abbrev pub verdict_of : Answer → List ℕ → Verdict
verdict_of Fit values = found values
verdict_of None values = refuted
verdict_of Stopped values = stopped

-- the word that is printed for it
abbrev pub word_of : Answer → List ℕ
word_of Fit = codes "fit"
word_of None = codes "none"
word_of Stopped = codes "stop"

-- what an answer leaves of a slice for fits: beyond the first places everything, and without a fit these too
abbrev pub Leaves : Answer → ℕ → List ℕ → List ℕ → Type 0
Leaves Fit places before after = (k : ℕ) → places ≤ k → slice_index after k ≡ slice_index before k
Leaves None places before after = after ≡ before
Leaves Stopped places before after = after ≡ before
