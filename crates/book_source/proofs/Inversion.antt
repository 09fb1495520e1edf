-- What a reading that gave something was made of.
use Rattle.std.proofs.Common.{◌≡◌, ℕ, zero, suc, ◌<◌, ◌≤◌, Bool, true, false, cond, ltb, leb, List, [], ◌∷◌, length, Ok, Err, Result, sym, refl, ap, ◌∙◌, subst, arith, ltb-true, leb-true}
use borrow.Author.Tests.{clash}
use Rattle.questions.specs.declared.question.Question.{Question}
use Rattle.book_fields.specs.declared.field.Field.{Field}
use Rattle.book_fields.specs.declared.field.Fault.{Fault}
use Rattle.book_fields.specs.Fields.{asked}
use Rattle.book_source.specs.Readings.{Reading, Source, ask, and_then, next, between, within, each}

pub ok_so : {X : Type 0} {x y : X} → ◌≡◌ {A = Result X Fault} (Ok x) (Ok y) → x ≡ y
ok_so e = cc

-- each with what follows from it, so that a chain of them stays small
pub ask_so : {X P : Type 0} (b : Bool) (q : Question) (at : ℕ) (f : Field) (r : Result X Fault) {y : X} → ask b q at f r ≡ Ok y → (b ≡ true → r ≡ Ok y → P) → P
ask_so true q at f r e so = so refl e
ask_so false q at f r e so = let z : ◌≡◌ {A = ℕ} 0 1 = cc in absurd (omega arith)

pub then_so : {X Y P : Type 0} (r : Result X Fault) (k : X → Result Y Fault) {y : Y} → and_then r k ≡ Ok y → ((x : X) → r ≡ Ok x → k x ≡ Ok y → P) → P
then_so (Ok x) k e so = so x refl e
then_so (Err f) k e so = let z : ◌≡◌ {A = ℕ} 0 1 = cc in absurd (omega arith)

pub next_so : {X Y P : Type 0} (m : Reading X) (k : X → Reading Y) (at : ℕ) {y : Y × ℕ} → next m k at ≡ Ok y → ((x : X) (end : ℕ) → m at ≡ Ok (x, end) → k x end ≡ Ok y → P) → P
next_so m k at e so = then_so (m at) (λ p. k p.0 p.1) e (λ p was rest. so p.0 p.1 was rest)

pub both_so : (p q : Bool) → cond p q false ≡ true → (p ≡ true) × (q ≡ true)
both_so true q e = (refl, e)
both_so false q e = absurd (clash e)

pub within_so : {P : Type 0} (s : Source) (f : Field) (low high at v end : ℕ) → within s f low high at ≡ Ok (v, end) → (s f at ≡ Ok (v, end) → low ≤ v → v < high → P) → P
within_so s f low high at v end e so =
    then_so (s f at) _ e (λ p was rest.
    ask_so (between low high p.0) (asked f) at f (Ok p) rest (λ ok same.
    let b = both_so (leb low p.0) (ltb p.0 high) ok in
    let v-is : p.0 ≡ v = cc in
    so (was ∙ same) (let h = leb-true low p.0 b.0 in omega arith) (let h = ltb-true p.0 high b.1 in omega arith)))

-- what holds of things that were read one after another, each with what was carried on to it
abbrev pub Chain : {C X : Type 0} → (C → X → C) → (C → X → Type 0) → C → List X → Type 0
Chain on Q c [] = Unit {0}
Chain on Q c (x ∷ xs) = Q c x × Chain on Q (on c x) xs

module _ {C X : Type 0} (one : C → Reading X) (on : C → X → C) (Q : C → X → Type 0) (step : (c : C) (at : ℕ) (x : X) (end : ℕ) → one c at ≡ Ok (x, end) → Q c x) where
  pub each_so : (n : ℕ) (c : C) (at : ℕ) (xs : List X) (end : ℕ) → each one on c n at ≡ Ok (xs, end) → (length xs ≡ n) × Chain on Q c xs
  each_so zero c at xs end e = let none : [] ≡ xs = ap (λ p. p.0) (ok_so e) in (sym (ap length none), subst (Chain on Q c) none tt)
  each_so (suc n) c at xs end e =
      next_so (one c) _ at e (λ x mid was rest.
      next_so (each one on (on c x) n) _ mid rest (λ ys fin was' rest'.
      let all : x ∷ ys ≡ xs = ap (λ p. p.0) (ok_so rest') in
      let tail = each_so n (on c x) mid ys fin was' in
      (sym (ap length all) ∙ ap suc tail.0, subst (Chain on Q c) all (step c at x mid was, tail.1))))
