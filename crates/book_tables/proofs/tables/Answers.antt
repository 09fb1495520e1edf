use Rattle.std.proofs.Common.{◌+◌, ◌<◌, length, sym, ◌∙◌, arith, length-set}
use Rattle.std.proofs.lemmas.Result.{err_from_is_err_and}
use Rattle.grammar.specs.Layout.{table_of}
use Rattle.book_source.proofs.Each.{sofar_more, sofar_stop}
use Rattle.grammar.proofs.Layouts.{tables_more, count_more, laid_more}
use Rattle.book_tables.proofs.tables.Goals as goal

pub returns-in_err-next-clause-value : goal.returns-in_err-next-clause-value
returns-in_err-next-clause-value g c =
    let p = err_from_is_err_and c.from_residual.result c.from_residual.ensures.1 in
    rw (p.1, p.2) (sofar_stop _ _ _ _ _ _ _ _ _ _ c.loop-t.invariant.0 (table_of c.table.new.out) c.table.result c.in_err-next.field-0.0 _ (omega arith) c.in_err-next.was c.table.ensures.value)

pub loop-t-preserved : goal.loop-t-preserved
loop-t-preserved g c =
    let so = c.loop-t.invariant.0 in
    let old = c.loop-t.invariant.1 in
    let t = c.in_ok-next.next in
    let said = c.in_ok-next.ensures in
    let k = c.loop-t.t in
    let lt : k < length c.loop-t.place-items = omega arith in
    let new = c.table.new.out in
    let same = c.table.auto.out in
    let count = count_more _ c.loop-t.first t said.shape c.loop-t.place-items k lt c.loop-t.out new (omega arith) same old said.grown in (
      sofar_more _ _ _ _ _ _ _ _ _ _ so (table_of new) c.table.result t _ _ _ _ (omega arith) c.in_ok-next.was c.table.ensures.value c.table.ensures.same
          (tables_more _ c.loop-t.first t said.shape c.loop-t.place-items k lt c.loop-t.out new (omega arith) same old said.grown)
          (λ i. (k + 1, c.loop-t.first + sym count i)),
      laid_more _ c.loop-t.first t said.shape c.loop-t.place-items k lt c.loop-t.out new (omega arith) same old said.grown,
      length-set c.loop-t.place-items k t ∙ c.loop-t.invariant.2,
    )
