-- Writing fields in turns: what is written, with what is left to write, is all.
use Rattle.std.proofs.Common.{◌≡◌, ℕ, ◌+◌, ◌-◌, ◌^◌, ◌<◌, ◌≤◌, List, [], ◌∷◌, ◌++◌, length, drop, Some, None, sym, refl, ap, ◌∙◌, subst, append_assoc, append-nil, arith, length-append}
use Rattle.std.specs.List.{AllByRecursion}
use Rattle.bits.specs.Bits.{spell}
use Rattle.bits.specs.Ink.{inked, place}
use Rattle.bits.specs.declared.pen.Pen.{Pen}
use Rattle.bits.proofs.Laws.{length_spell}
use Rattle.book_fields.specs.declared.field.Field.{Field}
use Rattle.book_fields.specs.Fields.{layout}
use Rattle.draft.specs.Entries.{Entry}
use Rattle.draft.specs.Encoding.{in_bits, code, spelt, FitsIn, Fit}
use Rattle.draft.specs.Writing.{Kept, Ready, Wrote}
use Rattle.draft.specs.declared.fields.FieldWriter.{FieldWriter}
use Rattle.draft.proofs.Spelling.{spelt_none, spelt_append, length_spelt_append}

all_left : (xs ys : List Entry) → AllByRecursion Fit (xs ++ ys) → AllByRecursion Fit xs
all_left [] ys a = tt
all_left (x ∷ xs) ys a = (a.0, all_left xs ys a.1)

all_right : (xs ys : List Entry) → AllByRecursion Fit (xs ++ ys) → AllByRecursion Fit ys
all_right [] ys a = a
all_right (x ∷ xs) ys a = all_right xs ys a.1

pub kept_on : (a b c : FieldWriter) → Kept b c → Kept a b → Kept a c
kept_on a b c k h = record { slice = k.slice ∙ h.slice; long = k.long ∙ h.long }

-- one field, by its layout
pub one_spelt : (f : Field) (v at : ℕ) → spelt at ((f, v) ∷ []) ≡ in_bits v (layout f at)
unfolding spelt
one_spelt f v at = append-nil (code (f, v) at)

pub one_none : (f : Field) (v at : ℕ) → layout f at ≡ None → Fit (f, v) → ⊥
one_none f v at e h = subst (FitsIn v) e (h at)

pub one_fits : (f : Field) (v at w a : ℕ) → layout f at ≡ Some (w, a) → Fit (f, v) → (a ≤ v) × (v - a < 2 ^ w)
one_fits f v at w a e h = subst (FitsIn v) e (h at)

pub one_long : (f : Field) (v at w a : ℕ) → layout f at ≡ Some (w, a) → length (spelt at ((f, v) ∷ [])) ≡ w
one_long f v at w a e = ap length (one_spelt f v at) ∙ ap (λ l. length (in_bits v l)) e ∙ length_spell w (v - a)

pub one_wrote : (f : Field) (v w a : ℕ) (out : List ℕ) (pen : Pen) (out' : List ℕ) (pen' : Pen) → layout f (place pen) ≡ Some (w, a)
    → inked out' pen' ≡ inked out pen ++ spell w (v - a) → place pen' ≡ place pen + w → ((k : ℕ) → pen'.at ≤ k → drop k out' ≡ drop k out) → Wrote out pen out' pen' ((f, v) ∷ [])
one_wrote f v w a out pen out' pen' e ink on rest = record {
  ink = ink ∙ ap (λ l. inked out pen ++ l) (sym (one_spelt f v (place pen) ∙ ap (in_bits v) e));
  on = on ∙ ap (λ k. place pen + k) (sym (one_long f v (place pen) w a e));
  rest = rest;
}

pub record Due (out₀ : List ℕ) (pen₀ : Pen) (out : List ℕ) (pen : Pen) (all rest : List Entry) : Type 0 where
  pub ready : Ready pen out rest
  pub ink : inked out pen ++ spelt (place pen) rest ≡ inked out₀ pen₀ ++ spelt (place pen₀) all
  pub on : place pen + length (spelt (place pen) rest) ≡ place pen₀ + length (spelt (place pen₀) all)
  pub from : place pen₀ ≤ place pen
  pub same : (k : ℕ) → pen.at ≤ k → drop k out ≡ drop k out₀

pub due_none : (out : List ℕ) (pen : Pen) (all : List Entry) → Ready pen out all → Due out pen out pen all all
due_none out pen all h = record { ready = h; ink = refl; on = refl; from = omega arith; same = λ k _. refl }

module _ (out₀ : List ℕ) (pen₀ : Pen) (out : List ℕ) (pen : Pen) (all rest es left : List Entry) (due : Due out₀ pen₀ out pen all rest) (parts : rest ≡ es ++ left) where
  -- there is room for what comes next
  pub due_ready : Ready pen out es
  due_ready = record {
    room = omega (arith, due.ready.room, ap (λ l. length (spelt (place pen) l)) parts, length_spelt_append (place pen) es left);
    short = due.ready.short;
    fit = all_left es left (subst (AllByRecursion Fit) parts due.ready.fit);
  }

  module _ (out' : List ℕ) (pen' : Pen) (long : length out' ≡ length out) (w : Wrote out pen out' pen' es) where
    pub due_more : Due out₀ pen₀ out' pen' all left
    due_more =
        let at = place pen in
        let here = spelt at es in
        let e : spelt at rest ≡ here ++ spelt (place pen') left = ap (spelt at) parts ∙ spelt_append at es left ∙ ap (λ k. here ++ spelt k left) (sym w.on) in
        let n = ap length e ∙ length-append here (spelt (place pen') left) in
        record {
          ready = record { room = omega (arith, due.ready.room, w.on); short = omega (arith, due.ready.short); fit = all_right es left (subst (AllByRecursion Fit) parts due.ready.fit) };
          ink = ap (λ l. l ++ spelt (place pen') left) w.ink ∙ append_assoc (inked out pen) here (spelt (place pen') left) ∙ ap (λ l. inked out pen ++ l) (sym e) ∙ due.ink;
          on = omega (arith, w.on, due.on);
          from = omega (arith, w.on, due.from);
          same = λ k h. w.rest k h ∙ due.same k (omega (arith, w.on, pen.few, pen'.few));
        }

pub due_all : (out₀ : List ℕ) (pen₀ : Pen) (out : List ℕ) (pen : Pen) (all rest : List Entry) → Due out₀ pen₀ out pen all rest → rest ≡ [] → Wrote out₀ pen₀ out pen all
due_all out₀ pen₀ out pen all rest due none =
    let e : spelt (place pen) rest ≡ [] = ap (spelt (place pen)) none ∙ spelt_none (place pen) in
    record {
      ink = sym (append-nil (inked out pen)) ∙ ap (λ l. inked out pen ++ l) (sym e) ∙ due.ink;
      on = omega (arith, due.on, ap length e);
      rest = due.same;
    }

-- all that was left is written
pub due_last : (out₀ : List ℕ) (pen₀ : Pen) (out : List ℕ) (pen : Pen) (all rest : List Entry) → Due out₀ pen₀ out pen all rest
    → (out' : List ℕ) (pen' : Pen) → length out' ≡ length out → Wrote out pen out' pen' rest → Wrote out₀ pen₀ out' pen' all
due_last out₀ pen₀ out pen all rest due out' pen' long w =
    due_all out₀ pen₀ out' pen' all [] (due_more out₀ pen₀ out pen all rest rest [] due (sym (append-nil rest)) out' pen' long w) refl
