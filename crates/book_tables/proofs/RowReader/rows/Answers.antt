use Rattle.std.proofs.Common.{◌≡◌, ◌+◌, ◌<◌, [], ◌∷◌, map, length, take, Some, ap, ◌∙◌, arith}
use mathlib.Core.List.{map-append}
use Rattle.std.proofs.lemmas.Result.{err_from_is_err_and}
use Rattle.std.proofs.lemmas.List.{take_more_set}
use Rattle.std.proofs.ByRecursion.{All-push}
use Rattle.grammar.specs.Layout.{Padded}
use Rattle.book_source.proofs.Each.{sofar_more, sofar_stop}
use Rattle.book_tables.proofs.RowReader.rows.Goals as goal

pub returns-in_err-read-clause-value : goal.returns-in_err-read-clause-value
returns-in_err-read-clause-value g c =
    let p = err_from_is_err_and c.from_residual.result c.from_residual.ensures.1 in
    rw (p.1, p.2) (sofar_stop _ _ _ _ _ _ _ _ _ _ c.loop-i.invariant.0 (take (length c.args.self.now.scope.now)) c.row.result c.in_err-read.field-0.0 _ c.loop-i-test.true c.in_err-read.was c.row.ensures.value)

pub loop-i-preserved : goal.loop-i-preserved
loop-i-preserved g c =
    let so = c.loop-i.invariant.0 in
    let n = length c.args.self.now.scope.now in
    let x = c.in_ok-read.read in
    let i = c.loop-i.i in
    let lt : i < length c.loop-i.out = omega arith in
    let grown = take_more_set c.loop-i.out i x lt in
    let count : c.args.first + (i + 1) ≡ c.args.first + i + 1 = omega arith in (
      sofar_more _ _ _ _ _ _ _ _ _ _ so (take n) c.row.result x _ _ _ _ c.loop-i-test.true c.in_ok-read.was c.row.ensures.value c.row.ensures.same
          (ap (map (take n)) grown ∙ map-append (take n) (take i c.loop-i.out) (x ∷ [])) (λ t. (count t, Some (take n x))),
      rw grown (All-push (Padded n) _ x c.loop-i.invariant.1 c.in_ok-read.ensures.rest),
    )
