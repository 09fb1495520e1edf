-- What boxes mean for the fits of a book.
use Rattle.std.specs.Prelude.{◌≡◌, ℕ, ◌<◌, List, length}
use Rattle.grammar.specs.Contents.{Contents, Fit, Valid}
use Rattle.propagate.specs.Sets.{sets_of}
use Rattle.propagate.specs.Laws.{Within}
use Rattle.reduce.specs.Boxes.{BoxOf, Meets}

-- each option of the book has a value
abbrev pub NonEmpty : Contents → List ℕ → Type 0
NonEmpty c array = (x : ℕ) → x < length c.sizes → 0 < sets_of c array x

-- some fit of the book lies inside the sets
abbrev pub HasFit : Contents → List ℕ → Type 0
HasFit c array = (values : List ℕ) × Fit c values × Within c array values

-- Sets have one box.
abbrev pub OneBox : Type 0
OneBox = (c : Contents) (array a b : List ℕ) → length a ≡ length b → BoxOf c array a → BoxOf c array b → a ≡ b

-- A fit inside the sets meets their box.
abbrev pub InsideMeets : Type 0
InsideMeets = (c : Contents) (array noted values : List ℕ) → BoxOf c array noted → Within c array values → Meets noted values

-- If no fit lies inside non-empty sets, no fit of the book meets their box.
abbrev pub DeadBox : Type 0
DeadBox =
    (c : Contents) → Valid c → (array noted : List ℕ) → NonEmpty c array → BoxOf c array noted
    → (HasFit c array → ⊥) → (values : List ℕ) → Fit c values → Meets noted values → ⊥

-- Of two non-empty sets with one box, one has a fit inside exactly where the other has.
abbrev pub EqualBoxes : Type 0
EqualBoxes =
    (c : Contents) → Valid c → (a b noted : List ℕ) → NonEmpty c a → NonEmpty c b → BoxOf c a noted → BoxOf c b noted
    → (HasFit c a → HasFit c b) × (HasFit c b → HasFit c a)
