use Rattle.std.proofs.Common.{◌≡◌, length, ap, ◌∙◌, subst, arith, length-drop, length-take, length-take-le}
use Rattle.std.specs.List.{AllByRecursion}
use Rattle.grammar.specs.Layout.{Padded}
use Rattle.grammar.proofs.Layouts.{put_grown}
use Rattle.book_tables.proofs.table.Goals as goal

pub returns-clause-grown : goal.returns-clause-grown
returns-clause-grown g c =
    let t = c.in_ok-read.read in
    let h = c.in_ok-read.ensures.shape in
    let count : length c.rows.new.out ≡ t.count = c.rows.auto.out ∙ simp (length-take, length-drop) (omega (arith, h.ends)) in
    let arity : length c.own_scope.result.now ≡ t.arity = ap length c.own_scope.ensures ∙ length-take-le t.arity t.scope (omega (arith, h.few, h.full)) in
    put_grown _ _ t h c.args.out.now c.rows.new.out count c.requires.room (subst (λ n. AllByRecursion (Padded n) c.rows.new.out) arity c.in_ok-rows.ensures.rest)
