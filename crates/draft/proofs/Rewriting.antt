-- A read book is written as the file that it was read from.
use Rattle.std.proofs.Common.{◌≡◌, ℕ, ◌-◌, ◌<◌, ◌≤◌, leb, List, map, length, get_or, take, Some, None, Ok, Err, sum, Option, Result, sym, ap, ◌∙◌, subst, arith, length-drop, leb-true}
use mathlib.Core.HLevel.{⊥_prop}
use mathlib.Core.Logic.{∥∥₁_elim}
use native.Mathlib.Nat.{ℕ_set}
use native.Mathlib.Bridge.{le_prop}
use Rattle.std.specs.List.{AllByRecursion}
use Rattle.std.proofs.ByRecursion.{All-from_get_or}
use Rattle.std.proofs.lemmas.List.{ext_get_or}
use Rattle.questions.specs.declared.question.Question.{Question}
use Rattle.book.specs.declared.book.Book.{Book}
use Rattle.book_fields.specs.declared.field.Field.{Field}
use Rattle.book_fields.specs.declared.field.Fault.{Fault}
use Rattle.grammar.specs.declared.index.TableIndex.{TableIndex}
use Rattle.book.specs.Books.{contents, letters}
use Rattle.grammar.specs.Contents.{Contents, Valid}
use Rattle.book_fields.specs.Fields.{layout}
use Rattle.book_source.specs.Files.{in_file}
use Rattle.grammar.specs.Layout.{cut, table_of}
use Rattle.book_source.proofs.Inversion.{ask_so}
use Rattle.grammar.proofs.Validity.{all_prop, valid_out}
use Rattle.draft.specs.Entries.{Entry, fields}
use Rattle.draft.specs.Encoding.{FitsIn, Fit, encode}
use Rattle.draft.specs.Written.{counted, fitted, overwritten, Rewritten}
use Rattle.draft.proofs.Fitting.{put_front}
use Rattle.draft.proofs.Layers.{book_whole}
use Rattle.draft.proofs.Trips.{parse_so, back}

fits_in_prop : (v : ℕ) (l : Option (ℕ × ℕ)) → IsProp (FitsIn v l)
fits_in_prop v None = ⊥_prop
fits_in_prop v (Some l) = λ a b t. (le_prop a.0 b.0 t, le_prop a.1 b.1 t)

fit_prop : (e : Entry) → IsProp (Fit e)
fit_prop e = λ a b t at. fits_in_prop e.1 (layout e.0 at) (a at) (b at) t

module _ (b : Book) where
  book_fit : AllByRecursion Fit (fields (contents b))
  book_fit =
      ∥∥₁_elim b.read (all_prop Fit fit_prop (fields (contents b)))
      (λ e. parse_so b.file.now (length b.rows.now) (contents b) e (λ end was. (book_whole (in_file b.file.now) 0 (contents b) end was).fit))

  book_short : length b.file.now ≤ 32768
  book_short = ∥∥₁_elim b.read le_prop (λ e. ask_so (leb (length b.file.now) 32768) Question.FileLength 0 Field.Whole _ e (λ yes _. leb-true _ _ yes))

  pub book_bytes : encode (contents b) ≡ b.file.now
  book_bytes =
      let file = b.file.now in
      let small = All-from_get_or (λ x. x < 256) file 0 (λ i _. b.bytes i) in
      ext_get_or 0 (encode (contents b)) file
      (∥∥₁_elim b.read (ℕ_set _ _) (λ e. ap length (back file small (length b.rows.now) (contents b) e)))
      (λ i _. ∥∥₁_elim b.read (ℕ_set _ _) (λ e. ap (λ l. get_or l i 0) (back file small (length b.rows.now) (contents b) e)))

  -- the parts that a book tells of itself
  module _ (sizes lengths : List ℕ) (tables : List TableIndex) (rows : List (List ℕ)) (names : List ℕ) (s : sizes ≡ take b.index.options b.index.sizes) (n : lengths ≡ take b.index.options b.index.lengths)
      (t : tables ≡ take b.index.tables b.index.table) (r : rows ≡ b.rows.now) (l : names ≡ letters b) where
    abbrev told : Contents
    told = record { sizes = sizes; names = cut names lengths; tables = map (table_of rows) tables }

    pub told_is : told ≡ contents b
    told_is = (λ i. record { sizes = s i; names = cut (l i) (n i); tables = map (table_of (r i)) (t i) })

    pub told_valid : Valid told
    told_valid = subst Valid (sym told_is) (valid_out (contents b) b.valid)

    pub told_fit : AllByRecursion Fit (fields told)
    told_fit = subst (λ c. AllByRecursion Fit (fields c)) (sym told_is) book_fit

    long : length names ≡ b.index.letters
    long = ap length l ∙ length-drop (length b.file.now - b.index.letters) b.file.now ∙ omega (arith, b.inside)

    pub told_spelled : length names ≡ sum lengths
    told_spelled = long ∙ b.spelled ∙ sym (ap sum n)

    pub told_short : length names ≤ 32768
    told_short = omega (arith, long, b.inside, book_short)

    pub told_bytes : encode told ≡ b.file.now
    told_bytes = ap encode told_is ∙ book_bytes

pub rewrote : (file old out : List ℕ) (room : ℕ) (r : Result ℕ Fault) → r ≡ counted (fitted file room) → out ≡ overwritten (fitted file room) old → Rewritten file r out
rewrote file old out room (Ok n) value change = put_front file old out room n value change
rewrote file old out room (Err e) value change = tt
