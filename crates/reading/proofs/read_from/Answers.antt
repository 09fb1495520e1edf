use Rattle.std.proofs.Common.{◌-◌, take, ap, ◌∙◌, arith, length-take-le}
use native.Mathlib.Nat.{sub-zero}
use Rattle.std.proofs.lemmas.Result.{err_from_is_err_and}
use Rattle.reading.proofs.BookSteps.{book_stop, book_read}
use Rattle.reading.proofs.read_from.Goals as goal

pub returns-in_err-tail-clause-value : goal.returns-in_err-tail-clause-value
returns-in_err-tail-clause-value g c =
    let p = err_from_is_err_and c.from_residual-in_err-tail.result c.from_residual-in_err-tail.ensures.1 in
    let n = c.in_ok-options.options in
    let total = c.in_ok-letters.ensures.total in
    let count = length-take-le (c.in_ok-letters.letters - 0) c.args.names.now (omega (arith, total.1)) ∙ sub-zero c.in_ok-letters.letters ∙ total.0 in
    rw (p.1, p.2) (book_stop _ _ _ _ _ _ _ _ n c.in_ok-options.count _ _ (take n c.shapes.new.sizes) (take n c.shapes.new.lengths) _ _ c.counts.result c.shapes.result c.tables.result
    c.counts.ensures.same c.shapes.ensures.same c.tables.ensures.same (ap (λ k. take k c.shapes.new.sizes) (sub-zero n))
    c.in_ok-options.was c.counts.ensures.value c.in_ok-letters.was c.shapes.ensures.value c.in_ok-rows.was c.tables.ensures.value
    _ _ c.tail.new.out c.tail.result count c.tail.ensures.value c.in_err-tail.field-0.0 c.in_err-tail.was)

pub returns-clause-value : goal.returns-clause-value
returns-clause-value g c =
    let n = c.in_ok-options.options in
    let total = c.in_ok-letters.ensures.total in
    let count = length-take-le (c.in_ok-letters.letters - 0) c.args.names.now (omega (arith, total.1)) ∙ sub-zero c.in_ok-letters.letters ∙ total.0 in
    book_read _ _ _ _ _ _ _ _ n c.in_ok-options.count _ _ (take n c.shapes.new.sizes) (take n c.shapes.new.lengths) _ _ c.counts.result c.shapes.result c.tables.result
    c.counts.ensures.same c.shapes.ensures.same c.tables.ensures.same (ap (λ k. take k c.shapes.new.sizes) (sub-zero n))
    c.in_ok-options.was c.counts.ensures.value c.in_ok-letters.was c.shapes.ensures.value c.in_ok-rows.was c.tables.ensures.value
    _ _ c.tail.new.out c.tail.result count c.tail.ensures.value _ _ c.in_ok-tail.was c.tail.auto.out
