-- The questions of an ask on a shared sheet, and what it leaves.
use Rattle.std.specs.Prelude.{◌≡◌, ℕ, ◌&&◌, List, length, take, Some, Ok, Err, sum, Result, nat_le}
use Rattle.questions.specs.declared.question.Question.{Question}
use Rattle.grammar.specs.Contents.{Contents}
use Rattle.store.specs.Meaning.{Meaning}
use Rattle.trials.specs.Trials.{Asks}
use Rattle.ask.specs.declared.kinds.Asked.{Asked}
use Rattle.ask.specs.Answers.{verdict_of, Leaves}
use Rattle.sheet.specs.Decisions.{ask, is_person}
use Rattle.sheet.specs.Starts.{Standing, Starts}
use Rattle.shared.specs.Sharing.{Promised}

-- Is the person 1 or 2, the budget 1 to 1,000,000, has each work slice as many places as all sizes together, and the slice for the fit one for each option?
abbrev pub askable : Contents → ℕ → ℕ → ℕ → ℕ → ℕ → Result (Unit {0}) Question
askable c person budget branches trail fit =
    ask (is_person person) Question.Person
    (ask (nat_le 1 budget && nat_le budget 1000000) Question.Budget
    (ask (nat_le (sum c.sizes) branches && nat_le (sum c.sizes) trail) Question.WorkRoom
    (ask (nat_le (length c.sizes) fit) Question.FitRoom
    (Ok tt))))

-- a call is refused by the first question answered no
abbrev pub refusal : {X : Type 0} → Result X Question → Result (Unit {0}) Question
refusal (Ok x) = Ok tt
refusal (Err q) = Err q

-- What an ask does where these decisions stand: an ask over the sets that they leave, with the fit in the first places of its slice. A refusal alters neither slice nor store.
abbrev pub AskedOn : (c : Contents) (S : Type 0) (m : Meaning S) → Standing → ℕ → Result Asked Question → List ℕ → List ℕ → S → S → Type 0
AskedOn c S m stands budget (Ok a) before after s t =
    (array : List ℕ) × Starts c stands array × Asks c S m (Some budget) array s (verdict_of a.answer (take (length c.sizes) after)) t a.count
    × Leaves a.answer (length c.sizes) before after
AskedOn c S m stands budget (Err q) before after s t = (after ≡ before) × (t ≡ s)

-- a work slice keeps its length, and after a refusal all that it held
abbrev pub Worked : {T : Type 0} → Result Asked Question → List T → List T → Type 0
Worked (Ok a) before after = length after ≡ length before
Worked (Err q) before after = after ≡ before

-- what an ask that is not refused promises
abbrev pub Promises : Contents → Standing → ℕ → Result Asked Question → List ℕ → Type 0
Promises c stands budget (Ok a) fit = Promised c stands budget (verdict_of a.answer (take (length c.sizes) fit)) a.count
Promises c stands budget (Err q) fit = Unit {0}
