-- What two people can rely on for every list of commands on one sheet, whatever store it has.
use Rattle.std.specs.Prelude.{◌≡◌, ℕ, List, [], ◌∷◌, map, length, replicate, Option, Result}
use Rattle.questions.specs.declared.question.Question.{Question}
use Rattle.grammar.specs.Contents.{Contents, Valid}
use Rattle.store.specs.Meaning.{Meaning, Emptied}
use Rattle.ask.specs.declared.kinds.Asked.{Asked}
use Rattle.sheet.specs.Decisions.{stands}
use Rattle.sheet.specs.Runs.{standing}
use Rattle.shared.specs.Asking.{askable, refusal}
use Rattle.console.specs.declared.command.Command.{Command}
use Rattle.desk.specs.Commands.{answered, budget_of, call_of, kept, Does, PromisedOf}

-- A command obeyed or refused, from what sheet and store were to what they are then: any lengths of the work slices, any slice for the fit.
pub record Obeyed (c : Contents) {S : Type 0} (m : Meaning S) (command : Command) (before : List ℕ) (s : S) (after : List ℕ) (t : S) : Type 0 where
  pub branches : ℕ
  pub trail : ℕ
  pub fit : List ℕ
  pub fit_after : List ℕ
  pub reply : Result (Option Asked) Question
  pub value : refusal reply ≡ answered c before (λ person budget. askable c person budget branches trail (length fit)) command
  pub sheet : after ≡ kept command (refusal reply) before
  pub does : Does c S m (stands before) (budget_of command) reply fit fit_after s t

-- sheet and store after commands on a sheet just opened, the last command first
pub data Since (c : Contents) (S : Type 0) (m : Meaning S) : List Command → List ℕ → S → Type 0 where
  opening : {s t : S} → Emptied m s t → Since c S m [] (replicate 96 0) t
  obeying : {commands : List Command} {command : Command} {before after : List ℕ} {s t : S} → Since c S m commands before s → Obeyed c m command before s after t → Since c S m (command ∷ commands) after t

-- After every list of commands, refused ones among them, the next command has an answer as promised for what stands by these commands.
abbrev pub EveryListKeepsThePromise : (S : Type 0) → Meaning S → Type 0
EveryListKeepsThePromise S m =
    (c : Contents) → Valid c → (commands : List Command) (before : List ℕ) (s : S) → Since c S m commands before s
    → (command : Command) (after : List ℕ) (t : S) (o : Obeyed c m command before s after t)
    → PromisedOf c (standing c (map call_of commands)) (budget_of command) o.reply o.fit_after
