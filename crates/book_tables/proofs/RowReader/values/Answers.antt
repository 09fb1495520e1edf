use Rattle.std.proofs.Common.{◌<◌, length, refl, ◌∙◌, arith, length-set}
use Rattle.std.proofs.lemmas.Result.{err_from_is_err_and}
use Rattle.std.proofs.lemmas.List.{take_more_set, drop-set-lt}
use Rattle.book_source.proofs.Each.{sofar_more, sofar_stop}
use Rattle.book_tables.proofs.RowReader.values.Goals as goal

pub returns-in_err-value-clause-value : goal.returns-in_err-value-clause-value
returns-in_err-value-clause-value g c =
    let p = err_from_is_err_and c.from_residual.result c.from_residual.ensures.1 in
    rw (p.1, p.2) (sofar_stop _ _ _ _ _ _ _ _ _ _ c.loop-j.invariant.0 (λ v. v) c.within.result c.in_err-value.field-0.0 _ c.loop-j-test.true c.in_err-value.was c.within.ensures.value)

pub loop-j-preserved : goal.loop-j-preserved
loop-j-preserved g c =
    let so = c.loop-j.invariant.0 in
    let lt : c.loop-j.j < length c.loop-j.read = omega (arith, c.loop-j.invariant.2) in (
      sofar_more _ _ _ _ _ _ _ _ _ _ so (λ v. v) c.within.result c.in_ok-value.value _ _ _ _ c.loop-j-test.true c.in_ok-value.was c.within.ensures.value c.within.ensures.same
          (take_more_set c.loop-j.read c.loop-j.j c.in_ok-value.value lt) refl,
      drop-set-lt (length c.args.self.now.scope.now) c.loop-j.read c.loop-j.j c.in_ok-value.value c.loop-j-test.true ∙ c.loop-j.invariant.1,
      length-set c.loop-j.read c.loop-j.j c.in_ok-value.value ∙ c.loop-j.invariant.2,
    )
