-- A file that parses is a valid book.
use Rattle.std.proofs.Common.{◌≡◌, ℕ, leb, List, length, Ok, subst}
use Rattle.questions.specs.declared.question.Question.{Question}
use Rattle.book_fields.specs.declared.field.Field.{Field}
use Rattle.grammar.specs.Contents.{Contents, Valid}
use Rattle.grammar.specs.Grammar.{book}
use Rattle.book_source.specs.Files.{in_file}
use Rattle.book.specs.Parse.{parse, row_count}
use Rattle.book_source.proofs.Inversion.{ok_so, ask_so, then_so}
use Rattle.grammar.proofs.ValidBooks.{book_valid}

pub parse_valid : (file : List ℕ) (room : ℕ) (c : Contents) → parse file room ≡ Ok c → Valid c
parse_valid file room c e =
    ask_so (leb (length file) 32768) Question.FileLength 0 Field.Whole _ e (λ _ e.
    then_so (book (in_file file) 0) _ e (λ p was e.
    ask_so (leb (row_count p.0) room) Question.Room 0 Field.Whole (Ok p.0) e (λ _ last.
    subst Valid (ok_so last) (book_valid (in_file file) 0 p.0 p.1 was))))
