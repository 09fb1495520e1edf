-- By induction over the commands: the sheet keeps what they leave standing, and the store holds dead boxes only.
use Rattle.std.proofs.Common.{◌≡◌, ℕ, List, ◌∷◌, map, length, Some, None, Ok, Err, Option, Result, sym, refl, ◌∙◌, subst, length-set}
use Rattle.questions.specs.declared.question.Question.{Question}
use Rattle.grammar.specs.Contents.{Contents, Valid}
use Rattle.store.specs.Meaning.{Meaning, HoldsOnly}
use Rattle.trials.specs.Laws.{Dead}
use Rattle.ask.specs.declared.kinds.Asked.{Asked}
use Rattle.sheet.specs.declared.decision.Kind.{Kind}
use Rattle.sheet.specs.Decisions.{makes, made, stands, withdraws, withdrawn}
use Rattle.sheet.specs.Runs.{Call, making, withdrawing, asking, standing}
use Rattle.sheet.proofs.Keeping.{keeps_makes, keeps_withdraws, keeps_new, known_parts}
use Rattle.shared.specs.Asking.{AskedOn, refusal}
use Rattle.shared.specs.Sharing.{After}
use Rattle.shared.proofs.Promises.{starts_alike, stays_dead, promised}
use Rattle.console.specs.declared.command.Command.{Command}
use Rattle.console.specs.declared.command.Command.TheVariants.{Fix, Bar, WithdrawFix, WithdrawBar, Ask}
use Rattle.desk.specs.Commands.{Answers, budget_of, call_of, PromisedOf}
use Rattle.desk.specs.Lists.{Obeyed, Since, opening, obeying, EveryListKeepsThePromise}

long_made : (r : Result (Unit {0}) Question) (sets : List ℕ) (p : ℕ) (k : Kind) (x v : ℕ) → length (made r sets p k x v) ≡ length sets
long_made (Ok u) sets p k x v = length-set sets _ _
long_made (Err q) sets p k x v = refl

long_withdrawn : (r : Result (Unit {0}) Question) (sets : List ℕ) (p : ℕ) (k : Kind) (x v : ℕ) → length (withdrawn r sets p k x v) ≡ length sets
long_withdrawn (Ok u) sets p k x v = length-set sets _ _
long_withdrawn (Err q) sets p k x v = refl

module _ (S : Type 0) (m : Meaning S) (c : Contents) (valid : Valid c) where
  -- what is known after calls: the sheet has its 96 sets, and all that is said of it and the store
  abbrev Stands : List Call → List ℕ → S → Type 0
  Stands calls sets s = (length sets ≡ 96) × After c m calls sets s

  module _ (calls : List Call) (before : List ℕ) (s : S) (so : Stands calls before s) where
    module _ (p : ℕ) (k : Kind) (x v : ℕ) (r : Result (Unit {0}) Question) (after : List ℕ) (t : S) (same : t ≡ s) where
      dead : HoldsOnly m (Dead c) t
      dead = subst (HoldsOnly m (Dead c)) (sym same) so.1.dead

      step_made : r ≡ makes c before p k x v → after ≡ made r before p k x v → Stands (making p k x v ∷ calls) after t
      step_made is then = subst (λ sets. Stands (making p k x v ∷ calls) sets t) (sym then) (
        long_made r before p k x v ∙ so.0,
        record { keeps = keeps_makes c valid.few calls before so.0 so.1.keeps p k x v (known_parts c valid.few p x v) r is; dead = dead },
      )

      step_withdrawn : r ≡ withdraws c before p k x v → after ≡ withdrawn r before p k x v → Stands (withdrawing p k x v ∷ calls) after t
      step_withdrawn is then = subst (λ sets. Stands (withdrawing p k x v ∷ calls) sets t) (sym then) (
        long_withdrawn r before p k x v ∙ so.0,
        record { keeps = keeps_withdraws c valid.few calls before so.0 so.1.keeps p k x v (known_parts c valid.few p x v) r is; dead = dead },
      )

    module _ (budget : ℕ) (fit fit_after : List ℕ) (t : S) where
      asked_dead : (r : Result (Option Asked) Question) → Answers r (λ a. AskedOn c S m (stands before) budget a fit fit_after s t) → HoldsOnly m (Dead c) t
      asked_dead (Ok None) d = absurd d
      asked_dead (Ok (Some a)) d = stays_dead c valid m budget _ d.0 s t _ so.1.dead d.2 d.1.long
      asked_dead (Err q) d = subst (HoldsOnly m (Dead c)) (sym d.1) so.1.dead

      asked_promised : (r : Result (Option Asked) Question) → Answers r (λ a. AskedOn c S m (stands before) budget a fit fit_after s t) → PromisedOf c (standing c calls) (Some budget) r fit_after
      asked_promised (Ok None) d = absurd d
      asked_promised (Ok (Some a)) d =
          promised c valid m budget _ d.0 s t _ so.1.dead d.2 (standing c calls)
          (starts_alike c valid.few (stands before) (standing c calls) so.1.keeps d.0 d.1)
      asked_promised (Err q) d = tt

    step : (command : Command) (after : List ℕ) (t : S) → Obeyed c m command before s after t → Stands (call_of command ∷ calls) after t
    step (Fix p x v) after t o = step_made p Kind.Fix x v (refusal o.reply) after t o.does.2 o.value o.sheet
    step (Bar p x v) after t o = step_made p Kind.Bar x v (refusal o.reply) after t o.does.2 o.value o.sheet
    step (WithdrawFix p x v) after t o = step_withdrawn p Kind.Fix x v (refusal o.reply) after t o.does.2 o.value o.sheet
    step (WithdrawBar p x v) after t o = step_withdrawn p Kind.Bar x v (refusal o.reply) after t o.does.2 o.value o.sheet
    step (Ask p budget) after t o = subst (λ sets. Stands (asking ∷ calls) sets t) (sym o.sheet) (
      so.0,
      record { keeps = so.1.keeps; dead = asked_dead budget o.fit o.fit_after t o.reply o.does },
    )

    answer : (command : Command) (after : List ℕ) (t : S) (o : Obeyed c m command before s after t) → PromisedOf c (standing c calls) (budget_of command) o.reply o.fit_after
    answer (Fix p x v) after t o = tt
    answer (Bar p x v) after t o = tt
    answer (WithdrawFix p x v) after t o = tt
    answer (WithdrawBar p x v) after t o = tt
    answer (Ask p budget) after t o = asked_promised budget o.fit o.fit_after t o.reply o.does

  since : {commands : List Command} {sets : List ℕ} {s : S} → Since c S m commands sets s → Stands (map call_of commands) sets s
  since (opening e) = (refl, record { keeps = keeps_new c; dead = λ x h. absurd (e.nothing x h) })
  since (obeying {commands} {command} {before} {after} {s} {t} w o) = step (map call_of commands) before s (since w) command after t o

pub every_list_keeps_the_promise_lem : (S : Type 0) (m : Meaning S) → EveryListKeepsThePromise S m
every_list_keeps_the_promise_lem S m c valid commands before s w command after t o = answer S m c valid (map call_of commands) before s (since S m c valid w) command after t o
