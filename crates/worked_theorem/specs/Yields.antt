-- Asks with one result.
use Rattle.std.specs.Prelude.{◌≡◌, ℕ, List, Some}
use Rattle.grammar.specs.Contents.{Contents}
use Rattle.store.specs.Meaning.{Meaning}
use Rattle.trials.specs.Trials.{Verdict, Asks}

-- An ask with this budget ends so: with this verdict, this store and so many trials. However it is run, verdict and trials are these.
pub record Yields (c : Contents) (S : Type 0) (m : Meaning S) (budget : ℕ) (array : List ℕ) (s : S) (v : Verdict) (t : S) (n : ℕ) : Type 0 where
  pub run : Asks c S m (Some budget) array s v t n
  pub only : (w : Verdict) (u : S) (k : ℕ) → Asks c S m (Some budget) array s w u k → (v ≡ w) × (n ≡ k)
