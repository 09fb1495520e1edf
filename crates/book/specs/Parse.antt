-- The meaning of a file: the contents of a book, or the first question answered no.
use Rattle.std.specs.Prelude.{◌≡◌, ℕ, ◌-◌, ◌<◌, ◌≤◌, List, ◌++◌, map, length, take, drop, Ok, Err, sum, Result, nat_le, slice_index}
use Rattle.std.specs.List.{flat_map}
use Rattle.questions.specs.declared.question.Question.{Question}
use Rattle.book_fields.specs.declared.field.Field.{Field}
use Rattle.book_fields.specs.declared.field.Fault.{Fault}
use Rattle.grammar.specs.declared.index.Index.{Index}
use Rattle.grammar.specs.Contents.{Contents}
use Rattle.grammar.specs.Layout.{contents_of, laid}
use Rattle.book_source.specs.Readings.{ask, and_then}
use Rattle.grammar.specs.Grammar.{book}
use Rattle.book_source.specs.Files.{in_file}

-- how many rows all tables have together
abbrev pub row_count : Contents → ℕ
row_count c = sum (map (λ t. length t.rows) c.tables)

-- a file, read with room for so many rows
abbrev pub parse : List ℕ → ℕ → Result Contents Fault
parse file room =
    ask (nat_le (length file) 32768) Question.FileLength 0 Field.Whole
    (and_then (book (in_file file) 0) (λ p.
    ask (nat_le (row_count p.0) room) Question.Room 0 Field.Whole
    (Ok p.0)))

-- what a slice for rows holds after a reading: the rows of the book in order in its first places; after a refusal all that it held
abbrev pub filled : Result Contents Fault → List (List ℕ) → List (List ℕ)
filled (Ok c) old = flat_map laid c.tables ++ drop (row_count c) old
filled (Err e) old = old

-- what an index says of the file and the rows that it was read from: the names are the last bytes of the file
abbrev pub indexed : List ℕ → List (List ℕ) → Index → Contents
indexed file rows i = contents_of rows (drop (length file - i.letters) file) i

-- a file and rows that an index was read from
pub record Read (file : List ℕ) (rows : List (List ℕ)) (i : Index) : Type 0 where
  pub few : i.options ≤ 24
  pub tabled : i.tables ≤ 48
  pub spelled : i.letters ≡ sum (take i.options i.lengths)
  pub inside : i.letters ≤ length file
  pub bytes : (k : ℕ) → slice_index file k < 256
  pub is : parse file (length rows) ≡ Ok (indexed file rows i)
