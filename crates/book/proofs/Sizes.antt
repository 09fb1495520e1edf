-- What the sizes of a book are known to be.
use Rattle.std.proofs.Common.{ℕ, ◌<◌, ◌≤◌, length, get_or}
use Rattle.std.proofs.ByRecursion.{All-get_or}
use Rattle.grammar.specs.Contents.{Contents, Valid}
use Rattle.book.specs.Books.{contents}
use Rattle.book.specs.declared.book.Book.{Book}
use Rattle.grammar.proofs.Validity.{valid_out}

pub valid : (b : Book) → Valid (contents b)
valid b = valid_out (contents b) b.valid

pub size_most : (c : Contents) → Valid c → (x : ℕ) → x < length c.sizes → (1 ≤ get_or c.sizes x 0) × (get_or c.sizes x 0 ≤ 32)
size_most c ok x l = All-get_or (λ s. (1 ≤ s) × (s ≤ 32)) c.sizes x 0 l ok.sized
