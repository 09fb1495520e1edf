use Rattle.std.proofs.Common.{◌≡◌, List, length, sym, refl, ap, ◌∙◌, arith, below_more}
use borrow.Author.Tests.{clash}
use Rattle.std.proofs.lemmas.List.{length-map}
use Rattle.book.specs.Books.{contents, tables_at}
use Rattle.book.specs.declared.book.Book.{Book}
use Rattle.grammar.specs.declared.index.TableIndex.{TableIndex}
use Rattle.propagate.proofs.Books.{table_at}
use Rattle.order.proofs.singles.all_universal.Goals as goal

-- a book has as many tables as it keeps
as_many : (b : Book) (tables : List TableIndex) → tables ≡ tables_at b → length (contents b).tables ≡ length tables
as_many b tables e = length-map (tables_at b) (table_at b) ∙ ap length (sym e)

pub returns-then-not-universal : goal.returns-then-not-universal
returns-then-not-universal c =
    let many = as_many c.args.book.now _ c.tables-table-end.ensures in
    (λ e. absurd (clash e), λ all. c.if-not-universal.ensures.1 (all c.loop-table.table (omega (arith, many))))

pub loop-table-preserved : goal.loop-table-preserved
loop-table-preserved c = below_more _ _ c.loop-table.invariant (c.if-not-universal.ensures.0 refl)

pub returns : goal.returns
returns c =
    let many = as_many c.args.book.now _ c.tables-table-end.ensures in
    (λ _ i l. c.loop-table.invariant i (omega (arith, many)), λ _. refl)
