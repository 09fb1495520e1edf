-- The two people, by the numbers under which calls name them.
use Rattle.std.specs.Prelude.{◌≡◌, ℕ, true, false, Result, MatchResult}
use Rattle.questions.specs.declared.question.Question.{Question}
use Rattle.sheet.specs.declared.person.Person.{Person}
use Rattle.sheet.specs.declared.person.Person.TheVariants.{First, Second}
use Rattle.sheet.specs.Decisions.{is_person}

abbrev pub number_of : Person → ℕ
number_of First = 1
number_of Second = 2

-- the result is the person of this number, or a no to the question whether it is a person's
abbrev pub IsNumbered : ℕ → Result Person Question → Type 0
IsNumbered number r = MatchResult r (λ person. (number_of person ≡ number) × (is_person number ≡ true)) (λ q. (q ≡ Question.Person) × (is_person number ≡ false))
