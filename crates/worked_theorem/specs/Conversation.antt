-- Ten lines about the sample book.
use Rattle.std.specs.Prelude.{◌≡◌, ℕ, ◌≤◌, List, [], ◌∷◌, map, length, replicate, None, codes, slice_set}
use Rattle.store.specs.Slots.{slots_of}
use Rattle.sheet.specs.Decisions.{place_of}
use Rattle.sheet.specs.declared.decision.Kind.{Kind}
use Rattle.worked_theorem.specs.Books.{sample}
use Rattle.worked_theorem.specs.Talking.{Desk, Talk}

-- each line, and what is printed for it
abbrev pub lines : List (List ℕ × List ℕ)
lines =
    (codes "A 1 100", codes "fit 0 0 0 in 4")
    ∷ (codes "F 2 0 2", codes "ok")
    ∷ (codes "A 1 100", codes "fit 2 1 1 in 1")
    ∷ (codes "B 1 2 1", codes "ok")
    ∷ (codes "A 2 100", codes "none in 1")
    ∷ (codes "f 1 0 2", codes "no 16")
    ∷ (codes "f 2 0 2", codes "ok")
    ∷ (codes "A 2 1", codes "stop in 1")
    ∷ (codes "A 2 2", codes "fit 0 0 0 in 2")
    ∷ (codes "F 3 0 0", codes "no 12")
    ∷ []

-- a sheet just opened, over a store of 256 vacant slots, with room for a fit
pub record Opened (desk : Desk) : Type 0 where
  pub bare : desk.sets ≡ replicate 96 0
  pub room : 3 ≤ length desk.fit
  pub vacant : slots_of desk.store ≡ replicate 256 None

-- In the end the bar of person 1 on the second value of the stand stands and nothing else, and the store was told no box.
pub record Ended (start end : Desk) : Type 0 where
  pub standing : end.sets ≡ slice_set (replicate 96 0) (place_of 1 Kind.Bar 2) 2
  pub untold : end.store ≡ start.store

pub record Conversed (branches trail : ℕ) (start : Desk) : Type 0 where
  -- there is such a conversation
  pub runs : (end : Desk) × Talk sample branches trail start lines end × Ended start end
  -- and whatever is printed for these lines, it is this
  pub only : (said : List (List ℕ × List ℕ)) (end : Desk) → Talk sample branches trail start said end → map (λ l. l.0) said ≡ map (λ l. l.0) lines → said ≡ lines

-- with room in the work slices, on a sheet just opened
abbrev pub Converses : Type 0
Converses = (branches trail : ℕ) → 7 ≤ branches → 7 ≤ trail → (start : Desk) → Opened start → Conversed branches trail start
