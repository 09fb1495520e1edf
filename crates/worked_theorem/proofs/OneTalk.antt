-- What is printed for some lines follows from where they start.
use Rattle.std.proofs.Common.{◌≡◌, ℕ, List, ◌∷◌, map, length, take, Some, None, Ok, Err, Option, Result, sym, refl, ap, ◌∙◌, subst, ap₂, arith, Bor}
use Rattle.questions.specs.declared.question.Question.{Question}
use Rattle.grammar.specs.Contents.{Contents}
use Rattle.store.specs.Slots.{slotted, slots_of}
use Rattle.store.specs.declared.slots.SlotStore.{SlotStore}
use Rattle.trials.specs.Trials.{Asks}
use Rattle.ask.specs.Answers.{verdict_of}
use Rattle.ask.specs.declared.kinds.Answer.{Answer}
use Rattle.ask.specs.declared.kinds.Asked.{Asked}
use Rattle.sheet.specs.Decisions.{stands}
use Rattle.sheet.specs.Starts.{Starts}
use Rattle.shared.specs.Asking.{askable, refusal, AskedOn}
use Rattle.shared.proofs.Promises.{starts_once}
use Rattle.console.specs.Printed.{printed, fit_line_of}
use Rattle.console.specs.declared.command.Command.{Command}
use Rattle.console.specs.declared.reply.Reply.{Reply}
use Rattle.desk.specs.Commands.{answered, kept, budget_of, Does}
use Rattle.desk.specs.Replies.{reply_of_answer, reply_of}
use Rattle.worked_theorem.specs.Talking.{Desk, Line, Talk, silence, says}
use Rattle.worked_theorem.proofs.OneRun.{one_run}
use Rattle.worked_theorem.proofs.Steadies.{SameSlots, slots_steady}

-- two desks with the same decisions, the same room for a fit and the same boxes in the same slots
pub record Like (d e : Desk) : Type 0 where
  pub sheet : d.sets ≡ e.sets
  pub long : length d.fit ≡ length e.fit
  pub slots : slots_of d.store ≡ slots_of e.store

-- what a line prints, and leaves
record Alike (a b : List ℕ) (d e : Desk) : Type 0 where
  text : a ≡ b
  desk : Like d e

same_answer : (x y : Answer) (vs ws : List ℕ) (k j : ℕ) → verdict_of x vs ≡ verdict_of y ws → k ≡ j → (values others : Bor (List ℕ)) → values.now ≡ vs → others.now ≡ ws
    → printed (reply_of_answer x k values) ≡ printed (reply_of_answer y j others)
same_answer Answer.Fit Answer.Fit vs ws k j e c values others p q = let same : vs ≡ ws = cc in ap₂ fit_line_of (p ∙ same ∙ sym q) c
same_answer Answer.Fit Answer.None vs ws k j e c values others p q = let z : ◌≡◌ {A = ℕ} 0 1 = cc in absurd (omega arith)
same_answer Answer.Fit Answer.Stopped vs ws k j e c values others p q = let z : ◌≡◌ {A = ℕ} 0 1 = cc in absurd (omega arith)
same_answer Answer.None Answer.Fit vs ws k j e c values others p q = let z : ◌≡◌ {A = ℕ} 0 1 = cc in absurd (omega arith)
same_answer Answer.None Answer.None vs ws k j e c values others p q = ap (λ n. printed (Reply.None n)) c
same_answer Answer.None Answer.Stopped vs ws k j e c values others p q = let z : ◌≡◌ {A = ℕ} 0 1 = cc in absurd (omega arith)
same_answer Answer.Stopped Answer.Fit vs ws k j e c values others p q = let z : ◌≡◌ {A = ℕ} 0 1 = cc in absurd (omega arith)
same_answer Answer.Stopped Answer.None vs ws k j e c values others p q = let z : ◌≡◌ {A = ℕ} 0 1 = cc in absurd (omega arith)
same_answer Answer.Stopped Answer.Stopped vs ws k j e c values others p q = ap (λ n. printed (Reply.Stop n)) c

-- what two lines with the same command print and leave
record Replies (c : Contents) (r q : Result (Option Asked) Question) (fit fit' : List ℕ) (s s' : SlotStore) : Type 0 where
  prints : (values others : Bor (List ℕ)) → values.now ≡ take (length c.sizes) fit → others.now ≡ take (length c.sizes) fit' → printed (reply_of r values) ≡ printed (reply_of q others)
  slots : slots_of s ≡ slots_of s'

module _ (c : Contents) (sets sets' : List ℕ) (before before' after after' : List ℕ) (s s' t t' : SlotStore) (same : sets ≡ sets') (slots : slots_of s ≡ slots_of s') where
  one_ask : (budget : ℕ) (a b : Asked) → AskedOn c SlotStore slotted (stands sets) budget (Ok a) before after s t
      → AskedOn c SlotStore slotted (stands sets') budget (Ok b) before' after' s' t' → Replies c (Ok (Some a)) (Ok (Some b)) after after' t t'
  one_ask budget a b (array, starts, run, leaves) (array', starts', run', leaves') =
      let one : array' ≡ array = starts_once c (stands sets) array' array (subst (λ k. Starts c (stands k) array') (sym same) starts') starts in
      let moved = subst (λ x. Asks c SlotStore slotted (Some budget) x s' (verdict_of b.answer (take (length c.sizes) after')) t' b.count) one run' in
      let end = one_run c SlotStore slotted (Some budget) SameSlots slots_steady run slots moved in
      record {
        prints = same_answer a.answer b.answer (take (length c.sizes) after) (take (length c.sizes) after') a.count b.count end.verdict end.count;
        slots = end.store;
      }

  -- the store stays as it is, and no values are printed
  untouched : (r q : Result (Option Asked) Question) → ((values others : Bor (List ℕ)) → printed (reply_of r values) ≡ printed (reply_of q others)) → t ≡ s → t' ≡ s' → Replies c r q after after' t t'
  untouched r q e p h = record { prints = λ values others v w. e values others; slots = ap slots_of p ∙ slots ∙ sym (ap slots_of h) }

  refused : (q r : Question) → refusal {X = Option Asked} (Err q) ≡ refusal {X = Option Asked} (Err r) → t ≡ s → t' ≡ s' → Replies c (Err q) (Err r) after after' t t'
  refused q r e p h = untouched (Err q) (Err r) (λ values others. let one : q ≡ r = cc in ap (λ x. printed (Reply.No x)) one) p h

  same_deed : (budget : Option ℕ) (r q : Result (Option Asked) Question) → refusal r ≡ refusal q → Does c SlotStore slotted (stands sets) budget r before after s t
      → Does c SlotStore slotted (stands sets') budget q before' after' s' t' → Replies c r q after after' t t'
  same_deed budget (Ok x) (Err q) e p h = let z : ◌≡◌ {A = ℕ} 0 1 = cc in absurd (omega arith)
  same_deed budget (Err q) (Ok x) e p h = let z : ◌≡◌ {A = ℕ} 0 1 = cc in absurd (omega arith)
  same_deed None (Err q) (Err r) e p h = refused q r e p.2 h.2
  same_deed (Some budget) (Err q) (Err r) e p h = refused q r e p.1 h.1
  same_deed None (Ok None) (Ok None) e p h = untouched (Ok None) (Ok None) (λ values others. refl) p.2 h.2
  same_deed None (Ok None) (Ok (Some b)) e p h = absurd h.0
  same_deed None (Ok (Some a)) (Ok x) e p h = absurd p.0
  same_deed (Some budget) (Ok None) (Ok x) e p h = absurd p
  same_deed (Some budget) (Ok (Some a)) (Ok None) e p h = absurd h
  same_deed (Some budget) (Ok (Some a)) (Ok (Some b)) e p h = one_ask budget a b p h

module _ (c : Contents) (branches trail : ℕ) where
  one_line : (asks : Command) {d d' e e' : Desk} {a b : List ℕ} → Like d d' → Line c branches trail asks d a e → Line c branches trail asks d' b e' → Alike a b e e'
  one_line asks {d} {d'} {e} {e'} like p q =
      let questions = p.questions ∙ ap₂ (λ sets room. answered c sets (λ person budget. askable c person budget branches trail room) asks) like.sheet like.long ∙ sym q.questions in
      let one = same_deed c d.sets d'.sets d.fit d'.fit e.fit e'.fit d.store d'.store e.store e'.store like.sheet like.slots (budget_of asks) p.answer q.answer questions p.does q.does in
      let shown : List ℕ → Bor (List ℕ) = λ values. record { ref_ptr = (0, 0); now = values } in
      let n = length c.sizes in
      record {
        text = sym (p.prints (shown (take n e.fit)) refl) ∙ one.prints (shown (take n e.fit)) (shown (take n e'.fit)) refl refl ∙ q.prints (shown (take n e'.fit)) refl;
        desk = record { sheet = p.sheet ∙ ap₂ (kept asks) questions like.sheet ∙ sym q.sheet; long = p.long ∙ like.long ∙ sym q.long; slots = one.slots };
      }

  pub one_talk : {d d' e e' : Desk} {xs ys : List (List ℕ × List ℕ)} → Talk c branches trail d xs e → Like d d' → map (λ l. l.0) xs ≡ map (λ l. l.0) ys → Talk c branches trail d' ys e' → xs ≡ ys
  one_talk silence like same silence = refl
  one_talk silence like same (says asks f o rest) = absurd (omega (arith, ap length same))
  one_talk (says asks f o rest) like same silence = absurd (omega (arith, ap length same))
  one_talk {d' = d'} (says {line = line} {text = text} asks f o rest) like same (says {after = after} {line = line'} {text = text'} asks' g q rest') =
      let one : line ≡ line' = cc in
      let this : asks' ≡ asks = cc in
      let now = one_line asks like o (subst (λ x. Line c branches trail x d' text' after) this q) in
      let then = one_talk rest now.desk (cc) rest' in
      ap₂ (λ l more. l ∷ more) (ap₂ (λ l t. (l, t)) one now.text) then
