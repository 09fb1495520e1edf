-- Reading and writing undo each other.
use Rattle.std.proofs.Common.{◌≡◌, ℕ, ◌+◌, ◌-◌, ◌*◌, ◌/◌, ◌≤◌, leb, List, [], ◌∷◌, ◌++◌, map, length, Ok, refl, ap, ◌∙◌, arith, le-leb}
use Rattle.std.specs.List.{AllByRecursion}
use Rattle.std.proofs.lemmas.List.{take_all}
use Rattle.bits.specs.Bits.{bits}
use Rattle.bits.specs.Bytes.{packed}
use Rattle.bits.proofs.Laws.{length_bits}
use Rattle.bits.proofs.Packs.{bits_packed, packed_bits, length_bytes}
use Rattle.questions.specs.declared.question.Question.{Question}
use Rattle.book_fields.specs.declared.field.Field.{Field}
use Rattle.grammar.specs.Contents.{Contents, Valid}
use Rattle.book_source.specs.Readings.{ask, and_then}
use Rattle.grammar.specs.Grammar.{book}
use Rattle.book_source.specs.Files.{in_file}
use Rattle.book.specs.Parse.{parse, row_count}
use Rattle.book_source.proofs.Inversion.{ok_so, ask_so, then_so}
use Rattle.grammar.proofs.ValidBooks.{book_valid}
use Rattle.draft.specs.Entries.{Entry, option_fields, fields}
use Rattle.draft.specs.Encoding.{spelt, encode, Fit}
use Rattle.draft.specs.Lengths.{file_length_of}
use Rattle.draft.specs.Trip.{There, Back}
use Rattle.draft.proofs.Spelling.{all_spelt}
use Rattle.draft.proofs.Said.{answered_append, answered_split, ended}
use Rattle.draft.proofs.FileFields.{file_answers, file_spells}
use Rattle.draft.proofs.Layers.{book_whole}
use Rattle.draft.proofs.Long.{fields_long, file_short}

all_front : (xs ys : List Entry) → AllByRecursion Fit (xs ++ ys) → AllByRecursion Fit xs
all_front [] ys a = tt
all_front (x ∷ xs) ys a = (a.0, all_front xs ys a.1)

pub valid_short : (c : Contents) → Valid c → AllByRecursion Fit (fields c) → file_length_of c ≤ 32768
valid_short c v fit = file_short c v (all_front (option_fields 0 c.sizes (map length c.names)) _ fit.1.1.1)

pub length_encode : (c : Contents) → Valid c → length (encode c) ≡ file_length_of c
length_encode c v = length_bytes (length (spelt 0 (fields c)) / 8) (spelt 0 (fields c)) ∙ omega (arith, fields_long c v)

pub bits_encode : (c : Contents) → Valid c → bits (encode c) ≡ spelt 0 (fields c)
bits_encode c v = bits_packed (spelt 0 (fields c)) (all_spelt 0 (fields c)) (omega (arith, fields_long c v))

pub there : There
there s at c end e room fits =
    let w = book_whole s at c end e in
    let v = book_valid s at c end e in
    let file = encode c in
    let bs = spelt 0 (fields c) in
    let is = bits_encode c v in
    let long : length file ≡ file_length_of c = length_encode c v in
    let short = valid_short c v w.fit in
    let last = 0 + length bs in
    let over : 8 * length file - last ≡ 0 = omega (arith, fields_long c v) in
    let answers = answered_append (in_file file) (fields c) ended 0 last last (file_answers file (fields c) [] w.fit is) (last, ap (λ k. Ok (k, last)) over, refl) in
    ap (λ b. ask b Question.FileLength 0 Field.Whole (and_then (book (in_file file) 0) (λ p. ask (leb (row_count p.0) room) Question.Room 0 Field.Whole (Ok p.0)))) (le-leb (length file) 32768 (omega (arith, short)))
    ∙ ap (λ r. and_then r (λ p. ask (leb (row_count p.0) room) Question.Room 0 Field.Whole (Ok p.0))) (w.again (in_file file) 0 last answers)
    ∙ ap (λ b. ask b Question.Room 0 Field.Whole (Ok c)) (le-leb (row_count c) room fits)

-- what a file was read as, by the questions that it answered
pub parse_so : {P : Type 0} (file : List ℕ) (room : ℕ) (c : Contents) → parse file room ≡ Ok c → ((end : ℕ) → book (in_file file) 0 ≡ Ok (c, end) → P) → P
parse_so file room c e so =
    ask_so (leb (length file) 32768) Question.FileLength 0 Field.Whole _ e (λ _ e.
    then_so (book (in_file file) 0) _ e (λ p was e.
    ask_so (leb (row_count p.0) room) Question.Room 0 Field.Whole (Ok p.0) e (λ _ last.
    so p.1 (was ∙ ap (λ c. Ok (c, p.1)) (ok_so last)))))

pub back : Back
back file small room c e =
    parse_so file room c e (λ end was.
    let w = book_whole (in_file file) 0 c end was in
    answered_split (in_file file) (fields c) ended 0 end w.answers (λ b front last.
    let bs = spelt 0 (fields c) in
    let sp = file_spells file (fields c) 0 b w.fit (omega arith) front in
    let none : 8 * length file - b ≡ 0 = ap (λ q. q.0) (ok_so last.1) in
    let all : bs ≡ bits file = sp.0 ∙ take_all (length bs) (bits file) (omega (arith, length_bits file, sp.1, sp.2)) in
    ap packed all ∙ packed_bits file small))
