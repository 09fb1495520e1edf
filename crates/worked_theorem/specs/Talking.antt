-- A conversation, line by line: what a line asks for, what that leaves, and what is printed.
use Rattle.std.specs.Prelude.{◌≡◌, ℕ, List, [], ◌∷◌, length, take, Some, Option, Result}
use Rattle.std.specs.Borrow.{Bor}
use Rattle.questions.specs.declared.question.Question.{Question}
use Rattle.grammar.specs.Contents.{Contents}
use Rattle.store.specs.Slots.{slotted}
use Rattle.store.specs.declared.slots.SlotStore.{SlotStore}
use Rattle.ask.specs.declared.kinds.Asked.{Asked}
use Rattle.sheet.specs.Decisions.{stands}
use Rattle.shared.specs.Asking.{askable, refusal}
use Rattle.console.specs.Grammar.{command}
use Rattle.console.specs.Printed.{printed}
use Rattle.console.specs.declared.command.Command.{Command}
use Rattle.desk.specs.Commands.{answered, budget_of, kept, Does}
use Rattle.desk.specs.Replies.{reply_of}

-- what is kept from line to line: the sheet's sets, the slice for fits, and the store
pub record Desk : Type 0 where
  pub sets : List ℕ
  pub fit : List ℕ
  pub store : SlotStore

-- A line with this command, over work slices of these lengths: what `obey` ensures of its answer and of what it leaves, and the reply that
-- `reply_to` makes of it, as it is printed. The slice for fits keeps its length.
pub record Line (c : Contents) (branches trail : ℕ) (asks : Command) (before : Desk) (text : List ℕ) (after : Desk) : Type 0 where
  pub answer : Result (Option Asked) Question
  pub questions : refusal answer ≡ answered c before.sets (λ person budget. askable c person budget branches trail (length before.fit)) asks
  pub sheet : after.sets ≡ kept asks (refusal answer) before.sets
  pub does : Does c SlotStore slotted (stands before.sets) (budget_of asks) answer before.fit after.fit before.store after.store
  pub long : length after.fit ≡ length before.fit
  pub prints : (values : Bor (List ℕ)) → values.now ≡ take (length c.sizes) after.fit → printed (reply_of answer values) ≡ text

-- Lines, each with what is printed for it. Each line says a command, and starts where the one before it ended.
pub data Talk (c : Contents) (branches trail : ℕ) : Desk → List (List ℕ × List ℕ) → Desk → Type 0 where
  silence : {desk : Desk} → Talk c branches trail desk [] desk
  says : {before after end : Desk} {line text : List ℕ} {more : List (List ℕ × List ℕ)} (asks : Command) → command line ≡ Some asks
      → Line c branches trail asks before text after → Talk c branches trail after more end → Talk c branches trail before ((line, text) ∷ more) end
