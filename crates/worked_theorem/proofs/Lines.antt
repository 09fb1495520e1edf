-- The ten lines, one after another.
use Rattle.std.proofs.Common.{◌≡◌, ℕ, zero, suc, ◌≤◌, Bool, true, false, ◌&&◌, leb, List, [], ◌∷◌, length, get_or, set, replicate, Some, None, Ok, Err, codes, Result, sym, refl, ap, subst, arith}
use Rattle.std.specs.Fmt.{digits}
use Rattle.std.proofs.lemmas.Bool.{false≢true, le-leb, and_from}
use Rattle.questions.specs.declared.question.Question.{Question}
use Rattle.store.specs.Slots.{slots_of}
use Rattle.store.specs.declared.slots.SlotStore.{SlotStore}
use Rattle.ask.specs.declared.kinds.Answer.{Answer}
use Rattle.sheet.specs.Decisions.{ask}
use Rattle.console.specs.Printed.{fit_line_of}
use Rattle.console.specs.declared.command.Command.{Command}
use Rattle.worked_theorem.specs.Books.{sample}
use Rattle.worked_theorem.specs.Talking.{Desk, Line, Talk, silence, says}
use Rattle.worked_theorem.specs.Conversation.{lines, Ended, Converses}
use Rattle.worked_theorem.proofs.OneTalk.{one_talk}
use Rattle.worked_theorem.proofs.Starting.{starting_so}
use Rattle.worked_theorem.proofs.SampleAsks.{three, all_free, gate_fixed, both_decided, stand_barred_short, stand_barred}

-- what the sheet keeps: nothing; the fix of the gate; the bar of the stand besides; the bar alone
abbrev bare : List ℕ
bare = replicate 96 0

abbrev fixed : List ℕ
fixed = set bare 48 4

abbrev both : List ℕ
both = set fixed 26 2

abbrev barred : List ℕ
barred = set bare 26 2

yes : (q : Question) (b : Bool) (r : Result (Unit {0}) Question) → b ≡ true → r ≡ Ok tt → ask b q r ≡ Ok tt
yes q true r e f = f
yes q false r e f = absurd (false≢true e)

module _ (branches trail : ℕ) (enough : 7 ≤ branches) (also : 7 ≤ trail) (s : SlotStore) (vacant : slots_of s ≡ replicate 256 None) (more : List ℕ) where
  -- the desk, with these values in the first places of the slice for fits
  abbrev desk : List ℕ → ℕ → ℕ → ℕ → Desk
  desk sets a b d = record { sets = sets; fit = a ∷ b ∷ d ∷ more; store = s }

  -- there is room in the slices
  roomy : Ok tt ≡ ask (leb 7 branches && leb 7 trail) Question.WorkRoom (ask (leb 3 (suc (suc (suc (length more))))) Question.FitRoom (Ok tt))
  roomy = sym (yes Question.WorkRoom (leb 7 branches && leb 7 trail) _ (and_from (leb 7 branches) (leb 7 trail) (le-leb 7 branches enough) (le-leb 7 trail also)) (yes Question.FitRoom (leb 3 (suc (suc (suc (length more))))) (Ok tt) (le-leb 3 (suc (suc (suc (length more)))) (omega arith)) refl))

  -- beyond the first three places the slice stays as it was
  same_rest : (a b d x y z : ℕ) (k : ℕ) → 3 ≤ k → get_or (x ∷ y ∷ z ∷ more) k 0 ≡ get_or (a ∷ b ∷ d ∷ more) k 0
  same_rest a b d x y z zero l = absurd (omega arith)
  same_rest a b d x y z (suc zero) l = absurd (omega arith)
  same_rest a b d x y z (suc (suc zero)) l = absurd (omega arith)
  same_rest a b d x y z (suc (suc (suc k))) l = refl

  first_ask : (a b d : ℕ) → Line sample branches trail (Command.Ask 1 100) (desk bare a b d) (codes "fit 0 0 0 in 4") (desk bare 0 0 0)
  unfolding digits
  first_ask a b d = record {
    answer = Ok (Some (record { answer = Answer.Fit; count = 4 }));
    questions = roomy;
    does = (three 7 3 3, starting_so sample bare (three 7 3 3) refl, all_free s vacant, same_rest a b d 0 0 0);
    sheet = refl;
    long = refl;
    prints = λ values e. ap (λ vs. fit_line_of vs 4) e;
  }

  fix : Line sample branches trail (Command.Fix 2 0 2) (desk bare 0 0 0) (codes "ok") (desk fixed 0 0 0)
  fix = record { answer = Ok None; questions = refl; sheet = refl; does = (tt, refl, refl); long = refl; prints = λ values e. refl }

  second_ask : Line sample branches trail (Command.Ask 1 100) (desk fixed 0 0 0) (codes "fit 2 1 1 in 1") (desk fixed 2 1 1)
  unfolding digits
  second_ask = record {
    answer = Ok (Some (record { answer = Answer.Fit; count = 1 }));
    questions = roomy;
    does = (three 4 3 3, starting_so sample fixed (three 4 3 3) refl, gate_fixed s vacant, same_rest 0 0 0 2 1 1);
    sheet = refl;
    long = refl;
    prints = λ values e. ap (λ vs. fit_line_of vs 1) e;
  }

  bar : Line sample branches trail (Command.Bar 1 2 1) (desk fixed 2 1 1) (codes "ok") (desk both 2 1 1)
  bar = record { answer = Ok None; questions = refl; sheet = refl; does = (tt, refl, refl); long = refl; prints = λ values e. refl }

  third_ask : Line sample branches trail (Command.Ask 2 100) (desk both 2 1 1) (codes "none in 1") (desk both 2 1 1)
  unfolding digits
  third_ask = record {
    answer = Ok (Some (record { answer = Answer.None; count = 1 }));
    questions = roomy;
    does = (three 4 3 1, starting_so sample both (three 4 3 1) refl, both_decided s vacant, refl);
    sheet = refl;
    long = refl;
    prints = λ values e. refl;
  }

  not_standing : Line sample branches trail (Command.WithdrawFix 1 0 2) (desk both 2 1 1) (codes "no 16") (desk both 2 1 1)
  unfolding digits
  not_standing = record { answer = Err Question.Standing; questions = refl; sheet = refl; does = (tt, refl, refl); long = refl; prints = λ values e. refl }

  unfix : Line sample branches trail (Command.WithdrawFix 2 0 2) (desk both 2 1 1) (codes "ok") (desk barred 2 1 1)
  unfix = record { answer = Ok None; questions = refl; sheet = refl; does = (tt, refl, refl); long = refl; prints = λ values e. refl }

  fourth_ask : Line sample branches trail (Command.Ask 2 1) (desk barred 2 1 1) (codes "stop in 1") (desk barred 2 1 1)
  unfolding digits
  fourth_ask = record {
    answer = Ok (Some (record { answer = Answer.Stopped; count = 1 }));
    questions = roomy;
    does = (three 7 3 1, starting_so sample barred (three 7 3 1) refl, stand_barred_short s vacant, refl);
    sheet = refl;
    long = refl;
    prints = λ values e. refl;
  }

  fifth_ask : Line sample branches trail (Command.Ask 2 2) (desk barred 2 1 1) (codes "fit 0 0 0 in 2") (desk barred 0 0 0)
  unfolding digits
  fifth_ask = record {
    answer = Ok (Some (record { answer = Answer.Fit; count = 2 }));
    questions = roomy;
    does = (three 7 3 1, starting_so sample barred (three 7 3 1) refl, stand_barred s vacant, same_rest 2 1 1 0 0 0);
    sheet = refl;
    long = refl;
    prints = λ values e. ap (λ vs. fit_line_of vs 2) e;
  }

  no_person : Line sample branches trail (Command.Fix 3 0 0) (desk barred 0 0 0) (codes "no 12") (desk barred 0 0 0)
  unfolding digits
  no_person = record { answer = Err Question.Person; questions = refl; sheet = refl; does = (tt, refl, refl); long = refl; prints = λ values e. refl }

  talk : (a b d : ℕ) → Talk sample branches trail (desk bare a b d) lines (desk barred 0 0 0)
  talk a b d =
      says (Command.Ask 1 100) refl (first_ask a b d)
      (says (Command.Fix 2 0 2) refl fix
      (says (Command.Ask 1 100) refl second_ask
      (says (Command.Bar 1 2 1) refl bar
      (says (Command.Ask 2 100) refl third_ask
      (says (Command.WithdrawFix 1 0 2) refl not_standing
      (says (Command.WithdrawFix 2 0 2) refl unfix
      (says (Command.Ask 2 1) refl fourth_ask
      (says (Command.Ask 2 2) refl fifth_ask
      (says (Command.Fix 3 0 0) refl no_person
      silence)))))))))

module _ (branches trail : ℕ) (enough : 7 ≤ branches) (also : 7 ≤ trail) (s : SlotStore) (vacant : slots_of s ≡ replicate 256 None) where
  abbrev Ends : Desk → Type 0
  Ends start = (end : Desk) × Talk sample branches trail start lines end × Ended start end

  from_bare : (fit : List ℕ) → 3 ≤ length fit → Ends (record { sets = replicate 96 0; fit = fit; store = s })
  from_bare [] l = absurd (omega arith)
  from_bare (a ∷ []) l = absurd (omega arith)
  from_bare (a ∷ b ∷ []) l = absurd (omega arith)
  from_bare (a ∷ b ∷ d ∷ more) l = (record { sets = barred; fit = 0 ∷ 0 ∷ 0 ∷ more; store = s }, talk branches trail enough also s vacant more a b d, record { standing = refl; untold = refl })

pub converses : Converses
converses branches trail enough also start opened =
    let runs : (end : Desk) × Talk sample branches trail start lines end × Ended start end =
    subst (λ sets. Ends branches trail enough also start.store opened.vacant (record { sets = sets; fit = start.fit; store = start.store })) (sym opened.bare)
    (from_bare branches trail enough also start.store opened.vacant start.fit opened.room) in
    record { runs = runs; only = λ said end talk same. one_talk sample branches trail talk (record { sheet = refl; long = refl; slots = refl }) same runs.1 }
