-- What writing gives: the bytes of a file, or the first question answered no.
use Rattle.std.specs.Prelude.{◌≡◌, ℕ, ◌≤◌, List, ◌++◌, map, length, take, drop, Ok, Err, Result, nat_le, sum}
use Rattle.questions.specs.declared.question.Question.{Question}
use Rattle.book_fields.specs.declared.field.Field.{Field}
use Rattle.book_fields.specs.declared.field.Fault.{Fault}
use Rattle.grammar.specs.Contents.{Contents, Valid}
use Rattle.grammar.specs.Layout.{cut, table_of}
use Rattle.book_source.specs.Readings.{ask, and_then}
use Rattle.grammar.specs.Grammar.{book}
use Rattle.book.specs.Parse.{parse, row_count}
use Rattle.draft.specs.Drafts.{in_draft}
use Rattle.draft.specs.Encoding.{encode}
use Rattle.draft.specs.declared.draft.Draft.{Draft}
use Rattle.draft.specs.declared.parts.Parts.{Parts}

-- the contents of a book in parts
abbrev pub contents_in : Parts → Contents
contents_in p = record { sizes = p.sizes.now; names = cut p.letters.now p.lengths.now; tables = map (table_of p.rows.now) p.tables.now }

-- what holds of parts that are to be written
pub record Writable (p : Parts) : Type 0 where
  pub valid : Valid (contents_in p)
  pub spelled : length p.letters.now ≡ sum p.lengths.now
  pub short : length p.letters.now ≤ 32768

-- bytes, if a slice has room for them
abbrev pub fitted : List ℕ → ℕ → Result (List ℕ) Fault
fitted bytes room = ask (nat_le (length bytes) room) Question.Room 0 Field.Whole (Ok bytes)

-- a draft, written with room for so many bytes
abbrev pub written : Draft → ℕ → Result (List ℕ) Fault
written d room = and_then (book (in_draft d) 0) (λ p. fitted (encode p.0) room)

-- how many bytes were written
abbrev pub counted : Result (List ℕ) Fault → Result ℕ Fault
counted (Ok bytes) = Ok (length bytes)
counted (Err e) = Err e

-- what a slice holds after a writing: the bytes in its first places; after a refusal all that it held
abbrev pub overwritten : Result (List ℕ) Fault → List ℕ → List ℕ
overwritten (Ok bytes) old = bytes ++ drop (length bytes) old
overwritten (Err e) old = old

-- what was written for a draft is read as the contents of the draft
abbrev pub Reread : Draft → Result ℕ Fault → List ℕ → Type 0
Reread d (Ok n) out = (c : Contents) × (end : ℕ) × (book (in_draft d) 0 ≡ Ok (c, end)) × ((room : ℕ) → row_count c ≤ room → parse (take n out) room ≡ Ok c)
Reread d (Err e) out = Unit {0}

-- what was written for a read book is the file that it was read from
abbrev pub Rewritten : List ℕ → Result ℕ Fault → List ℕ → Type 0
Rewritten file (Ok n) out = take n out ≡ file
Rewritten file (Err e) out = Unit {0}
