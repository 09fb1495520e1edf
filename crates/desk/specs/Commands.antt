-- What a command does to a sheet and its store, by the call that it stands for.
use Rattle.std.specs.Prelude.{◌≡◌, ℕ, List, length, Some, None, Ok, Err, Option, Result}
use Rattle.questions.specs.declared.question.Question.{Question}
use Rattle.grammar.specs.Contents.{Contents}
use Rattle.store.specs.Meaning.{Meaning}
use Rattle.ask.specs.declared.kinds.Asked.{Asked}
use Rattle.sheet.specs.declared.decision.Kind.{Kind}
use Rattle.sheet.specs.Decisions.{makes, made, withdraws, withdrawn}
use Rattle.sheet.specs.Starts.{Standing}
use Rattle.sheet.specs.Runs.{Call, making, withdrawing, asking}
use Rattle.shared.specs.Asking.{AskedOn, Promises}
use Rattle.console.specs.declared.command.Command.{Command}
use Rattle.console.specs.declared.command.Command.TheVariants.{Fix, Bar, WithdrawFix, WithdrawBar, Ask}

-- the call that a command stands for
abbrev pub call_of : Command → Call
call_of (Fix person option value) = making person Kind.Fix option value
call_of (Bar person option value) = making person Kind.Bar option value
call_of (WithdrawFix person option value) = withdrawing person Kind.Fix option value
call_of (WithdrawBar person option value) = withdrawing person Kind.Bar option value
call_of (Ask person budget) = asking

-- the budget of an ask; a decision has none
abbrev pub budget_of : Command → Option ℕ
budget_of (Fix person option value) = None
budget_of (Bar person option value) = None
budget_of (WithdrawFix person option value) = None
budget_of (WithdrawBar person option value) = None
budget_of (Ask person budget) = Some budget

-- What the questions of the call answer, where `asks` gives what those of an ask by a person with a budget answer.
abbrev pub answered : Contents → List ℕ → (ℕ → ℕ → Result (Unit {0}) Question) → Command → Result (Unit {0}) Question
answered c sets asks (Fix person option value) = makes c sets person Kind.Fix option value
answered c sets asks (Bar person option value) = makes c sets person Kind.Bar option value
answered c sets asks (WithdrawFix person option value) = withdraws c sets person Kind.Fix option value
answered c sets asks (WithdrawBar person option value) = withdraws c sets person Kind.Bar option value
answered c sets asks (Ask person budget) = asks person budget

-- what the sheet then keeps; an ask changes no decision
abbrev pub kept : Command → Result (Unit {0}) Question → List ℕ → List ℕ
kept (Fix person option value) r sets = made r sets person Kind.Fix option value
kept (Bar person option value) r sets = made r sets person Kind.Bar option value
kept (WithdrawFix person option value) r sets = withdrawn r sets person Kind.Fix option value
kept (WithdrawBar person option value) r sets = withdrawn r sets person Kind.Bar option value
kept (Ask person budget) r sets = sets

-- a decision that is not refused has no answer
abbrev pub Silent : Result (Option Asked) Question → Type 0
Silent (Ok None) = Unit {0}
Silent (Ok (Some a)) = ⊥
Silent (Err q) = Unit {0}

-- an ask that is not refused has one
abbrev pub Answers : Result (Option Asked) Question → (Result Asked Question → Type 0) → Type 0
Answers (Ok None) P = ⊥
Answers (Ok (Some a)) P = P (Ok a)
Answers (Err q) P = P (Err q)

-- What a command with this budget does besides, where these decisions stand: a decision leaves the slice for the fit and the store as they are.
abbrev pub Does : (c : Contents) (S : Type 0) (m : Meaning S) → Standing → Option ℕ → Result (Option Asked) Question → List ℕ → List ℕ → S → S → Type 0
Does c S m stands None r before after s t = Silent r × (after ≡ before) × (t ≡ s)
Does c S m stands (Some budget) r before after s t = Answers r (λ a. AskedOn c S m stands budget a before after s t)

-- What a work slice holds then: only an ask that is not refused changes it, and keeps its length.
abbrev pub Worked : {T : Type 0} → Option ℕ → Result (Option Asked) Question → List T → List T → Type 0
Worked None r before after = after ≡ before
Worked (Some budget) (Ok a) before after = length after ≡ length before
Worked (Some budget) (Err q) before after = after ≡ before

-- what is promised of its answer, where these decisions stand
abbrev pub PromisedOf : Contents → Standing → Option ℕ → Result (Option Asked) Question → List ℕ → Type 0
PromisedOf c stands None r fit = Unit {0}
PromisedOf c stands (Some budget) r fit = Answers r (λ a. Promises c stands budget a fit)
