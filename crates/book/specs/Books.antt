-- What a read book says.
use Rattle.std.specs.Prelude.{ℕ, ◌+◌, ◌-◌, cond, List, [], length, take, drop, Ok, Err, sum, Result, nat_lt, slice_index_or}
use Rattle.questions.specs.declared.question.Question.{Question}
use Rattle.grammar.specs.Contents.{Contents}
use Rattle.grammar.specs.Layout.{contents_of}
use Rattle.grammar.specs.declared.index.TableIndex.{TableIndex}
use Rattle.book.specs.declared.book.Book.{Book}

-- the bytes of all names are the last of the file
abbrev pub letters : Book → List ℕ
letters b = drop (length b.file.now - b.index.letters) b.file.now

abbrev pub contents : Book → Contents
contents b = contents_of b.rows.now (letters b) b.index

abbrev pub rows_at : Book → List (List ℕ)
rows_at b = b.rows.now

abbrev pub tables_at : Book → List TableIndex
tables_at b = take b.index.tables b.index.table

-- the byte of the file at which the name of an option begins
abbrev pub name_place : Book → ℕ → ℕ
name_place b option = length b.file.now - b.index.letters + sum (take option b.index.lengths)

-- the name of an option, or the refusal of an option that the book lacks
abbrev pub named : Contents → ℕ → Result (List ℕ) Question
named c option = cond (nat_lt option (length c.sizes)) (Ok (slice_index_or c.names option [])) (Err Question.OptionKnown)
