use Rattle.std.proofs.Common.{◌≡◌, ◌<◌, map, length, take, Ok, sum, sym, refl, ap, ◌∙◌, arith, length-take-le}
use Rattle.std.proofs.lemmas.Result.{err_from_is_err_and}
use Rattle.std.proofs.lemmas.List.{take_more_set}
use Rattle.std.proofs.lemmas.List.Sums.{sum_by_push}
use Rattle.book_source.specs.Readings.{and_then}
use Rattle.book_source.proofs.Each.{sofar_more, sofar_stop, sofar_all}
use Rattle.reading.proofs.Pairs.{pairs, pairs_push, firsts, seconds}
use Rattle.reading.proofs.options.shapes.Goals as goal

pub returns-in_err-size-clause-value : goal.returns-in_err-size-clause-value
returns-in_err-size-clause-value g c =
    let p = err_from_is_err_and c.from_residual.result c.from_residual.ensures.1 in
    rw (p.1, p.2) (
    ap (λ r. and_then r (λ q. Ok ((map (λ o. o.0) q.0, map (λ o. o.1) q.0), q.1)))
    (sofar_stop _ _ _ _ _ _ _ _ _ _ c.loop-i.invariant.0 (λ v. v) c.shape.result c.in_err-size.field-0.0 _ c.loop-i-test.true c.in_err-size.was c.shape.ensures.value))

pub loop-i-preserved : goal.loop-i-preserved
loop-i-preserved g c =
    let i = c.loop-i.i in
    let size = c.in_ok-size.size in
    let long = c.in_ok-size.length in
    let sizes = c.loop-i.sizes in
    let lengths = c.loop-i.lengths in
    let fits : i < length sizes = omega arith in
    let room : i < length lengths = omega arith in
    let even : length (take i sizes) ≡ length (take i lengths) = length-take-le i sizes (omega arith) ∙ sym (length-take-le i lengths (omega arith)) in
    let grown = take_more_set lengths i long room in
    let summed = ap sum grown ∙ sum_by_push (λ x. x) (take i lengths) long in (
      sofar_more _ _ _ _ _ _ _ _ _ _ c.loop-i.invariant.0 (λ v. v) c.shape.result (size, long) _ _ _ _ c.loop-i-test.true c.in_ok-size.was c.shape.ensures.value c.shape.ensures.same
          ((λ t. pairs (take_more_set sizes i size fits t) (grown t)) ∙ pairs_push (take i sizes) (take i lengths) size long even) refl,
      omega (arith, c.loop-i.invariant.1, summed),
      omega (arith, c.loop-i.invariant.2, c.in_ok-size.ensures.range.1),
    )

pub returns-clause-value : goal.returns-clause-value
returns-clause-value g c =
    let n = c.args.count in
    let sizes = take n c.loop-i.sizes in
    let lengths = take n c.loop-i.lengths in
    let end : c.loop-i.i ≡ n = omega arith in
    let even : length sizes ≡ length lengths = length-take-le n c.loop-i.sizes (omega arith) ∙ sym (length-take-le n c.loop-i.lengths (omega arith)) in
    let all = sofar_all _ _ _ _ _ _ _ _ _ _ c.loop-i.invariant.0 (pairs sizes lengths) c.loop-i-test.false (λ t. pairs (take (sym end t) c.loop-i.sizes) (take (sym end t) c.loop-i.lengths)) in
    (λ t. Ok ((sym (firsts sizes lengths even) t, sym (seconds sizes lengths even) t), g.S.Source.place c.loop-i.source))
    ∙ ap (λ r. and_then r (λ q. Ok ((map (λ o. o.0) q.0, map (λ o. o.1) q.0), q.1))) all
