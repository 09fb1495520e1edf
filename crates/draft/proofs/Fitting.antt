-- Bytes that a slice has room for, and bytes that it has not.
use Rattle.std.proofs.Common.{◌≡◌, ℕ, ◌-◌, ◌<◌, ◌≤◌, Bool, true, false, leb, List, ◌++◌, length, take, drop, Ok, sym, ap, ◌∙◌, arith, le-leb}
use native.Mathlib.Nat.{sub-zero}
use borrow.Author.Tests.{lt-leb}
use Rattle.std.proofs.lemmas.List.{take_at}
use Rattle.questions.specs.declared.question.Question.{Question}
use Rattle.book_fields.specs.declared.field.Field.{Field}
use Rattle.book_source.specs.Readings.{ask, refuse}
use Rattle.book_source.proofs.Inversion.{ok_so}
use Rattle.draft.specs.Written.{fitted, counted, overwritten}

module _ (bytes old : List ℕ) (n : ℕ) (size : length bytes ≡ n) where
  pub no_room : length old < n → refuse Question.Room 0 Field.Whole ≡ fitted bytes (length old)
  no_room few = sym (ap (λ b. ask b Question.Room 0 Field.Whole (Ok bytes)) (lt-leb (length bytes) (length old) (omega arith)))

  is_fitted : n ≤ length old → Ok bytes ≡ fitted bytes (length old)
  is_fitted fits = sym (ap (λ b. ask b Question.Room 0 Field.Whole (Ok bytes)) (le-leb (length bytes) (length old) (omega arith)))

  pub no_value : length old < n → refuse Question.Room 0 Field.Whole ≡ counted (fitted bytes (length old))
  no_value few = ap counted (no_room few)

  pub no_change : length old < n → old ≡ overwritten (fitted bytes (length old)) old
  no_change few = ap (λ r. overwritten r old) (no_room few)

  pub put_value : n ≤ length old → Ok n ≡ counted (fitted bytes (length old))
  put_value fits = ap Ok (sym size) ∙ ap counted (is_fitted fits)

  pub put_change : (new : List ℕ) → new ≡ bytes → n ≤ length old → new ++ drop (n - 0) old ≡ overwritten (fitted bytes (length old)) old
  put_change new is fits = (λ i. is i ++ drop ((sub-zero n ∙ sym size) i) old) ∙ ap (λ r. overwritten r old) (is_fitted fits)

-- what stands in the first places of a slice after bytes were put there
pub put_front : (bytes old out : List ℕ) (room n : ℕ) → Ok n ≡ counted (fitted bytes room) → out ≡ overwritten (fitted bytes room) old → take n out ≡ bytes
put_front bytes old out room n value change = go (leb (length bytes) room) value change
  where
    go : (b : Bool) → Ok n ≡ counted (ask b Question.Room 0 Field.Whole (Ok bytes)) → out ≡ overwritten (ask b Question.Room 0 Field.Whole (Ok bytes)) old → take n out ≡ bytes
    go true v c = let k : n ≡ length bytes = ok_so v in ap (take n) c ∙ take_at bytes (drop (length bytes) old) n (sym k)
    go false v c = let z : ◌≡◌ {A = ℕ} 0 1 = cc in absurd (omega arith)
