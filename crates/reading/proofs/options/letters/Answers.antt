use Rattle.std.proofs.Common.{◌<◌, length, refl, arith}
use Rattle.std.proofs.lemmas.Result.{err_from_is_err_and}
use Rattle.std.proofs.lemmas.List.{take_more_set}
use Rattle.book_source.proofs.Each.{sofar_more, sofar_stop}
use Rattle.reading.proofs.options.letters.Goals as goal

pub returns-in_err-byte-clause-value : goal.returns-in_err-byte-clause-value
returns-in_err-byte-clause-value g c =
    let p = err_from_is_err_and c.from_residual.result c.from_residual.ensures.1 in
    rw (p.1, p.2) (sofar_stop _ _ _ _ _ _ _ _ _ _ c.loop-k.invariant (λ v. v) c.within.result c.in_err-byte.field-0.0 _ c.loop-k-test.true c.in_err-byte.was c.within.ensures.value)

pub loop-k-preserved : goal.loop-k-preserved
loop-k-preserved g c =
    let lt : c.loop-k.k < length c.loop-k.out = omega arith in
    sofar_more _ _ _ _ _ _ _ _ _ _ c.loop-k.invariant (λ v. v) c.within.result c.in_ok-byte.byte _ _ _ _ c.loop-k-test.true c.in_ok-byte.was c.within.ensures.value c.within.ensures.same
    (take_more_set c.loop-k.out c.loop-k.k c.in_ok-byte.byte lt) refl
