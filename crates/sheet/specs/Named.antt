-- A decision by the numbers under which a call names it.
use Rattle.std.specs.Prelude.{◌≡◌, ℕ, Bool, List, Result}
use Rattle.questions.specs.declared.question.Question.{Question}
use Rattle.sheet.specs.declared.decision.Decision.{Decision}
use Rattle.sheet.specs.declared.decision.Kind.{Kind}
use Rattle.sheet.specs.Decisions.{stands, made, withdrawn}
use Rattle.sheet.specs.Persons.{number_of}

pub record IsNamed (person : ℕ) (kind : Kind) (option value : ℕ) (d : Decision) : Type 0 where
  pub by : number_of d.person ≡ person
  pub of : d.kind ≡ kind
  pub on : d.option ≡ option
  pub about : d.value ≡ value

-- whether the decision stands, and what a sheet keeps after it was made or withdrawn
abbrev pub is_standing : List ℕ → Decision → Bool
is_standing sets d = stands sets (number_of d.person) d.kind d.option d.value

abbrev pub with_made : Result (Unit {0}) Question → List ℕ → Decision → List ℕ
with_made r sets d = made r sets (number_of d.person) d.kind d.option d.value

abbrev pub with_withdrawn : Result (Unit {0}) Question → List ℕ → Decision → List ℕ
with_withdrawn r sets d = withdrawn r sets (number_of d.person) d.kind d.option d.value
