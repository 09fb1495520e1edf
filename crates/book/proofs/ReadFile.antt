-- From a book that was read into lent memory to the file's own meaning.
use Rattle.std.proofs.Common.{◌≡◌, ℕ, ◌-◌, ◌<◌, ◌≤◌, leb, List, [], ◌∷◌, ◌++◌, map, length, get_or, take, drop, Ok, sum, sym, refl, ap, ◌∙◌, arith, length-append, length-drop, length-take-le, take_at, le-leb}
use borrow.Author.Tests.{lt-leb}
use Rattle.std.specs.List.{flat_map}
use Rattle.std.proofs.lemmas.List.{length-map}
use Rattle.std.proofs.lemmas.List.Sums.{sum_by-cons}
use Rattle.questions.specs.declared.question.Question.{Question}
use Rattle.book_fields.specs.declared.field.Field.{Field}
use Rattle.grammar.specs.declared.index.Index.{Index}
use Rattle.grammar.specs.Contents.{Table, Contents}
use Rattle.grammar.specs.Layout.{Indexed, cut, contents_of, laid}
use Rattle.book_source.specs.Readings.{ask, and_then, refuse}
use Rattle.grammar.specs.Grammar.{counts, shapes, tables, tail, book}
use Rattle.book_source.specs.Files.{in_file}
use Rattle.book.specs.Parse.{row_count, parse, filled, indexed, Read}
use Rattle.book_source.proofs.Inversion.{ok_so, next_so}
use Rattle.book.proofs.FileNames.{tail_is}
use Rattle.grammar.proofs.Layouts.{tables_agree}
use Rattle.grammar.proofs.Cuts.{cut_lengths}

length_laid : (ts : List Table) → length (flat_map laid ts) ≡ sum (map (λ t. length t.rows) ts)
length_laid [] = refl
length_laid (t ∷ ts) =
    let one = length-map t.rows (λ row. row ++ lib.ListN.replicate (4 - length t.scope) 0) in
    length-append (laid t) (flat_map laid ts) ∙ omega (arith, one, length_laid ts, sum_by-cons (λ x. x) (length t.rows) (map (λ t. length t.rows) ts))

module _ (file : List ℕ) (bytes : (i : ℕ) → get_or file i 0 < 256) where
  -- the names of a book are cut from the end of its file
  names_are : (c : Contents) (end : ℕ) → book (in_file file) 0 ≡ Ok (c, end)
      → (ns : List ℕ) × (c.names ≡ cut (drop (length file - sum ns) file) ns) × (sum ns ≤ length file)
  names_are c end e =
      next_so (counts (in_file file)) _ 0 e (λ k a was e.
      next_so (shapes (in_file file) k.0) _ a e (λ os b was e.
      next_so (tables (in_file file) os.0 k.1) _ b e (λ ts d was e.
      next_so (tail (in_file file) (sum os.1)) _ d e (λ ls f was e.
      let t = tail_is file bytes (sum os.1) d ls f was in
      (os.1, sym (ap (λ p. p.0.names) (ok_so e)) ∙ ap (λ l. cut l os.1) t.0, t.1)))))

  module _ (short : length file ≤ 32768) (out : List (List ℕ)) (names : List ℕ) (i : Index) (end : ℕ) (is : book (in_file file) 0 ≡ Ok (contents_of out names i, end))
      (h : Indexed out i) (room : 8192 ≤ length out) (places : 384 ≤ length names) where
    c : Contents
    c = contents_of out names i

    count : row_count c ≡ i.rows
    unfolding c
    count = sym (length_laid c.tables) ∙ ap length (sym h.laid.are) ∙ length-take-le i.rows out (omega (arith, h.laid.few))

    spelled : (c.names ≡ cut (drop (length file - i.letters) file) (take i.options i.lengths)) × (i.letters ≤ length file)
    unfolding c
    spelled =
        let p = names_are c end is in
        let ns = p.0 in
        let lengths = take i.options i.lengths in
        let mine : map length c.names ≡ lengths = cut_lengths names lengths (omega (arith, h.spelled, h.short)) in
        let theirs : map length c.names ≡ ns = ap (map length) p.1 ∙ cut_lengths (drop (length file - sum ns) file) ns (simp length-drop (omega (arith, p.2))) in
        let same : ns ≡ lengths = sym theirs ∙ mine in
        let total : sum ns ≡ i.letters = ap sum same ∙ sym h.spelled in
        (p.1 ∙ (λ t. cut (drop (length file - total t) file) (same t)), omega (arith, p.2))

    asked : (n : ℕ) → parse file n ≡ ask (leb (row_count c) n) Question.Room 0 Field.Whole (Ok c)
    unfolding c
    asked n =
        ap (λ b. ask b Question.FileLength 0 Field.Whole (and_then (book (in_file file) 0) (λ p. ask (leb (row_count p.0) n) Question.Room 0 Field.Whole (Ok p.0)))) (le-leb (length file) 32768 short)
        ∙ ap (λ r. and_then r (λ p. ask (leb (row_count p.0) n) Question.Room 0 Field.Whole (Ok p.0))) is

    pub read_refused : (old : List (List ℕ)) → length old < i.rows → refuse Question.Room 0 Field.Whole ≡ parse file (length old)
    unfolding c
    read_refused old few = sym (asked (length old) ∙ ap (λ b. ask b Question.Room 0 Field.Whole (Ok c)) (lt-leb (row_count c) (length old) (omega (arith, count))))

    module _ (old new : List (List ℕ)) (fits : i.rows ≤ length old) (put : new ≡ take i.rows out ++ drop i.rows old) where
      front : take i.rows new ≡ take i.rows out
      front = ap (take i.rows) put ∙ take_at (take i.rows out) (drop i.rows old) i.rows (length-take-le i.rows out (omega (arith, h.laid.few)))

      same : c ≡ indexed file new i
      unfolding c
      same = (λ t. record {
        sizes = take i.options i.sizes;
        names = spelled.0 t;
        tables = tables_agree out new i.rows (take i.tables i.table) (sym front) h.laid.ends t;
      })

      is_c : parse file (length old) ≡ Ok c
      is_c = asked (length old) ∙ ap (λ b. ask b Question.Room 0 Field.Whole (Ok c)) (le-leb (row_count c) (length old) (omega (arith, count)))

      pub read_value : Ok (indexed file new i) ≡ parse file (length old)
      read_value = sym (is_c ∙ ap Ok same)

      pub read_rows : new ≡ filled (parse file (length old)) old
      unfolding c
      read_rows = put ∙ (λ t. h.laid.are t ++ drop (sym count t) old) ∙ ap (λ r. filled r old) (sym is_c)

      pub read_index : Read file new i
      read_index = record {
        few = h.few;
        tabled = h.tabled;
        spelled = h.spelled;
        inside = spelled.1;
        bytes = bytes;
        is = ap (parse file) (ap length put ∙ length-append (take i.rows out) (drop i.rows old) ∙ omega (arith, length-take-le i.rows out (omega (arith, h.laid.few)), length-drop i.rows old)) ∙ is_c ∙ ap Ok same;
      }
