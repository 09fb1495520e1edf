-- Reading and writing undo each other.
use Rattle.std.specs.Prelude.{◌≡◌, ℕ, ◌<◌, ◌≤◌, List, Ok}
use Rattle.std.specs.List.{AllByRecursion}
use Rattle.grammar.specs.Contents.{Contents}
use Rattle.book_source.specs.Readings.{Source}
use Rattle.grammar.specs.Grammar.{book}
use Rattle.book.specs.Parse.{parse, row_count}
use Rattle.draft.specs.Encoding.{encode}

-- contents that any source gave are, once encoded, read as the same contents
abbrev pub There : Type 0
There = (s : Source) (at : ℕ) (c : Contents) (end : ℕ) → book s at ≡ Ok (c, end) → (room : ℕ) → row_count c ≤ room → parse (encode c) room ≡ Ok c

-- a file that is read as contents is what they are encoded as
abbrev pub Back : Type 0
Back = (file : List ℕ) → AllByRecursion (λ b. b < 256) file → (room : ℕ) (c : Contents) → parse file room ≡ Ok c → encode c ≡ file
