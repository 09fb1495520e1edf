-- From a draft whose contents were read into lent memory to what is written for it.
use Rattle.std.proofs.Common.{◌≡◌, ℕ, ◌-◌, ◌≤◌, List, map, length, take, drop, Ok, Err, sum, Result, sym, ap, ◌∙◌, arith, length-take-le}
use native.Mathlib.Nat.{sub-zero}
use Rattle.std.specs.List.{AllByRecursion}
use Rattle.std.proofs.lemmas.List.{take-append-drop}
use Rattle.book_fields.specs.declared.field.Fault.{Fault}
use Rattle.grammar.specs.declared.index.Index.{Index}
use Rattle.grammar.specs.Contents.{Contents, Valid}
use Rattle.grammar.specs.Layout.{Indexed, cut, contents_of, table_of}
use Rattle.book_source.specs.Readings.{and_then}
use Rattle.grammar.specs.Grammar.{book}
use Rattle.book.specs.Parse.{parse}
use Rattle.grammar.proofs.Cuts.{cut_front}
use Rattle.grammar.proofs.ValidBooks.{book_valid}
use Rattle.draft.specs.Drafts.{in_draft}
use Rattle.draft.specs.Encoding.{Fit, encode}
use Rattle.draft.specs.Entries.{fields}
use Rattle.draft.specs.Written.{fitted, written, counted, overwritten, Reread}
use Rattle.draft.specs.declared.draft.Draft.{Draft}
use Rattle.draft.proofs.Fitting.{put_front}
use Rattle.draft.proofs.Layers.{book_whole}
use Rattle.draft.proofs.Trips.{there}

-- a refused draft
pub write_refused : (d : Draft) (room : ℕ) (e : Fault) → book (in_draft d) 0 ≡ Err e → Err e ≡ written d room
write_refused d room e is = sym (ap (λ r. and_then r (λ p. fitted (encode p.0) room)) is)

module _ (d : Draft) (rows : List (List ℕ)) (names : List ℕ) (i : Index) (end : ℕ) (is : book (in_draft d) 0 ≡ Ok (contents_of rows names i, end)) (h : Indexed rows i) (places : 384 ≤ length names) where
  -- the contents by the parts that are handed on
  abbrev parts : Contents
  parts = record {
    sizes = take (i.options - 0) i.sizes;
    names = cut (take (i.letters - 0) names) (take (i.options - 0) i.lengths);
    tables = map (table_of rows) (take (i.tables - 0) i.table);
  }

  pub letters_spelled : length (take (i.letters - 0) names) ≡ sum (take (i.options - 0) i.lengths)
  letters_spelled =
      length-take-le (i.letters - 0) names (omega (arith, sub-zero i.letters, h.short)) ∙ sub-zero i.letters ∙ h.spelled ∙ ap (λ k. sum (take k i.lengths)) (sym (sub-zero i.options))

  pub letters_short : length (take (i.letters - 0) names) ≤ 32768
  letters_short = let n = length-take-le (i.letters - 0) names (omega (arith, sub-zero i.letters, h.short)) in omega (arith, n, sub-zero i.letters, h.short)

  same : parts ≡ contents_of rows names i
  same =
      let ns = take (i.options - 0) i.lengths in
      let l = i.letters - 0 in
      let cuts : cut (take l names) ns ≡ cut names ns = sym (cut_front (take l names) (drop l names) ns (omega (arith, letters_spelled))) ∙ ap (λ xs. cut xs ns) (take-append-drop l names) in
      (λ t. record { sizes = take (i.options - 0) i.sizes; names = cuts t; tables = map (table_of rows) (take (i.tables - 0) i.table) })
      ∙ (λ t. record {
        sizes = take (sub-zero i.options t) i.sizes;
        names = cut names (take (sub-zero i.options t) i.lengths);
        tables = map (table_of rows) (take (sub-zero i.tables t) i.table);
      })

  given : book (in_draft d) 0 ≡ Ok (parts, end)
  given = is ∙ ap (λ c. Ok (c, end)) (sym same)

  pub parts_valid : Valid parts
  parts_valid = book_valid (in_draft d) 0 parts end given

  pub parts_fit : AllByRecursion Fit (fields parts)
  parts_fit = (book_whole (in_draft d) 0 parts end given).fit

  pub write_value : (room : ℕ) → fitted (encode parts) room ≡ written d room
  write_value room = sym (ap (λ r. and_then r (λ p. fitted (encode p.0) room)) given)

  pub write_reread : (room : ℕ) (old : List ℕ) (r : Result ℕ Fault) (out : List ℕ) → r ≡ counted (fitted (encode parts) room) → out ≡ overwritten (fitted (encode parts) room) old → Reread d r out
  write_reread room old (Err e) out value change = tt
  write_reread room old (Ok n) out value change =
      let bytes = put_front (encode parts) old out room n value change in
      (parts, end, given, λ room fits. ap (λ f. parse f room) bytes ∙ there (in_draft d) 0 parts end given room fits)
