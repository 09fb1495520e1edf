-- When a sheet may be issued.
use Rattle.std.specs.Prelude.{◌≡◌, ℕ, ◌<◌, ◌≤◌, true, false, List, length, take, Ok, Err, Result}
use Rattle.questions.specs.declared.question.Question.{Question}
use Rattle.grammar.specs.Contents.{Contents, Fit}
use Rattle.sheet.specs.Decisions.{is_person}
use Rattle.sheet.specs.Starts.{Standing, MeetsAll}

-- The first places of a slice hold a value for each option, so that every table and every standing decision is met.
pub record Issues (c : Contents) (stands : Standing) (slice : List ℕ) : Type 0 where
  pub fit : Fit c (take (length c.sizes) slice)
  pub meets : MeetsAll c stands (take (length c.sizes) slice)

-- What issuing is answered: the first question that is answered no, of the person, of the places of the slice and of what it holds.
pub record Issuable (c : Contents) (stands : Standing) (person : ℕ) (slice : List ℕ) (r : Result (Unit {0}) Question) : Type 0 where
  pub stranger : is_person person ≡ false → r ≡ Err Question.Person
  pub short : is_person person ≡ true → length slice < length c.sizes → r ≡ Err Question.FitRoom
  pub unfit : is_person person ≡ true → length c.sizes ≤ length slice → (Issues c stands slice → ⊥) → r ≡ Err Question.Fit
  pub fits : is_person person ≡ true → length c.sizes ≤ length slice → Issues c stands slice → r ≡ Ok tt
  pub granted : r ≡ Ok tt → Issues c stands slice
