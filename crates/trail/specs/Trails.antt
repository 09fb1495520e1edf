-- A trail of saved sets, the last first, and how it is undone.
use Rattle.std.specs.Prelude.{◌≡◌, ℕ, zero, suc, ◌+◌, ◌-◌, ◌<◌, List, [], ◌∷◌, length, take, drop, count_ones, slice_index, slice_set}
use Rattle.std.specs.List.{AllByRecursion}
use Rattle.trail.specs.declared.kinds.Branch.{Branch}
use Rattle.trail.specs.declared.kinds.Saved.{Saved}
use Rattle.trail.specs.declared.kinds.Side.{Side}

abbrev pub branch : ℕ → ℕ → Side → ℕ → Branch
branch o v s m = record { option = o; value = v; side = s; mark = m }

-- what an option's set is before it changes
abbrev pub saved : List ℕ → ℕ → Saved
saved b o = record { option = o; set = slice_index b o }

-- one save undone, and all of these, the last first
abbrev pub undone : List ℕ → Saved → List ℕ
undone b t = slice_set b t.option t.set

abbrev pub undoing : List Saved → List ℕ → List ℕ
undoing [] b = b
undoing (t ∷ ts) b = undoing ts (undone b t)

-- the saves after the first m, and those m
abbrev pub since : ℕ → List Saved → List Saved
since m ts = take (length ts - m) ts

abbrev pub until : ℕ → List Saved → List Saved
until m ts = drop (length ts - m) ts

-- each save is of an option that has a place
abbrev pub Known : List Saved → Type 0
Known ts = AllByRecursion (λ t. t.option < 24) ts

-- how many values the first options have together
abbrev pub total : ℕ → List ℕ → ℕ
total zero b = 0
total (suc n) [] = 0
total (suc n) (s ∷ b) = count_ones s + total n b

-- From some sets and a trail to others, by changes of one set at a time, each of which is saved and takes away a value or more.
pub data Saves (options : ℕ) (b : List ℕ) (ts : List Saved) : List ℕ → List Saved → Type 0 where
  none : Saves options b ts b ts
  more : {d : List ℕ} {us : List Saved} (o y : ℕ) → Saves options b ts d us → o < options → o < length d → count_ones y < count_ones (slice_index d o)
      → Saves options b ts (slice_set d o y) (saved d o ∷ us)

-- The last branch is closed: it is taken off, and what was saved after its mark is undone.
pub record Closed (x : Branch) (xs : List Branch) (ts : List Saved) (b : List ℕ) (ys : List Branch) (us : List Saved) (d : List ℕ) : Type 0 where
  pub branches : xs ≡ x ∷ ys
  pub trail : us ≡ until x.mark ts
  pub sets : d ≡ undoing (since x.mark ts) b

-- No branch is open, and nothing changes.
pub record Unopened (xs : List Branch) (ts : List Saved) (b : List ℕ) (ys : List Branch) (us : List Saved) (d : List ℕ) : Type 0 where
  pub none : xs ≡ []
  pub still : ys ≡ []
  pub trail : us ≡ ts
  pub sets : d ≡ b
