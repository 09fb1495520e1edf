use Rattle.std.proofs.Common.{◌<◌, ◌≢◌, length, refl, ◌∙◌, arith, length-set, get_or-set_other, get_or-set_same, below_more}
use Rattle.std.proofs.lemmas.Result.{err_from_is_err_and}
use Rattle.std.proofs.lemmas.List.{take_more_set}
use Rattle.book_source.proofs.Each.{sofar_more, sofar_stop}
use Rattle.book_tables.proofs.scope.Goals as goal

pub returns-in_err-option-clause-value : goal.returns-in_err-option-clause-value
returns-in_err-option-clause-value g c =
    let p = err_from_is_err_and c.from_residual.result c.from_residual.ensures.1 in
    rw (p.1, p.2) (sofar_stop _ _ _ _ _ _ _ _ _ _ c.loop-j.invariant.0 (λ v. v) c.within.result c.in_err-option.field-0.0 _ (omega arith) c.in_err-option.was c.within.ensures.value)

pub loop-j-preserved : goal.loop-j-preserved
loop-j-preserved g c =
    let so = c.loop-j.invariant.0 in
    let x = c.in_ok-option.option in
    let lt : c.loop-j.j < length c.loop-j.place-items = omega arith in (
      sofar_more _ _ _ _ _ _ _ _ _ _ so (λ v. v) c.within.result x _ _ _ _ (omega arith) c.in_ok-option.was c.within.ensures.value c.within.ensures.same
          (take_more_set c.loop-j.place-items c.loop-j.j x lt) refl,
      below_more _ _ (λ k h. let ne : k ≢ c.loop-j.j = omega arith in rw get_or-set_other (c.loop-j.invariant.1 k h)) (rw get_or-set_same c.in_ok-option.ensures.range.1),
      length-set c.loop-j.place-items c.loop-j.j x ∙ c.loop-j.invariant.2,
    )
