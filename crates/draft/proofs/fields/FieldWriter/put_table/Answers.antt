use Rattle.std.proofs.Common.{length, take, drop, sym, ap, ◌∙◌}
use Rattle.std.proofs.lemmas.List.{length-map}
use Rattle.draft.proofs.TableDues.{kind_ready, arity_ready, scope_ready, count_ready, rows_ready, table_wrote}
use Rattle.draft.proofs.fields.FieldWriter.put_table.Goals as goal

pub put-requires : goal.put-requires
put-requires c = kind_ready _ _ _ _ _ c.requires.ready

pub put-requires-2 : goal.put-requires-2
put-requires-2 c = rw c.own_scope-scope.ensures (arity_ready _ _ _ _ _ c.requires.ready _ _ c.put.ensures.kept.long c.put.ensures.wrote)

pub put_run-requires : goal.put_run-requires
put_run-requires c = rw c.own_scope-scope.ensures (scope_ready _ _ _ _ _ c.requires.ready _ _ c.put.ensures.kept.long c.put.ensures.wrote _ _ c.put-2.ensures.kept.long (rw c.own_scope-scope.ensures at c.put-2.ensures.wrote))

pub put-requires-3 : goal.put-requires-3
put-requires-3 c =
    let n = ap length c.rows_in-listed.ensures ∙ sym (length-map (take c.args.table.now.count (drop c.args.table.now.start c.args.rows.now)) (take c.args.table.now.arity)) in
    rw n (count_ready _ _ _ _ _ c.requires.ready _ _ c.put.ensures.kept.long c.put.ensures.wrote _ _ c.put-2.ensures.kept.long (rw c.own_scope-scope.ensures at c.put-2.ensures.wrote) _ _ c.put_run.ensures.kept.long (rw c.own_scope-scope.ensures at c.put_run.ensures.wrote))

pub put_rows-requires-clause-ready : goal.put_rows-requires-clause-ready
put_rows-requires-clause-ready c =
    let n = ap length c.rows_in-listed.ensures ∙ sym (length-map (take c.args.table.now.count (drop c.args.table.now.start c.args.rows.now)) (take c.args.table.now.arity)) in
    rw c.rows_in-listed.ensures (rows_ready _ _ _ _ _ c.requires.ready _ _ c.put.ensures.kept.long c.put.ensures.wrote _ _ c.put-2.ensures.kept.long (rw c.own_scope-scope.ensures at c.put-2.ensures.wrote)
    _ _ c.put_run.ensures.kept.long (rw c.own_scope-scope.ensures at c.put_run.ensures.wrote) _ _ c.put-3.ensures.kept.long (rw n at c.put-3.ensures.wrote))

pub returns-clause-wrote : goal.returns-clause-wrote
returns-clause-wrote c =
    let n = ap length c.rows_in-listed.ensures ∙ sym (length-map (take c.args.table.now.count (drop c.args.table.now.start c.args.rows.now)) (take c.args.table.now.arity)) in
    table_wrote _ _ _ _ _ c.requires.ready _ _ c.put.ensures.kept.long c.put.ensures.wrote _ _ c.put-2.ensures.kept.long (rw c.own_scope-scope.ensures at c.put-2.ensures.wrote)
    _ _ c.put_run.ensures.kept.long (rw c.own_scope-scope.ensures at c.put_run.ensures.wrote) _ _ c.put-3.ensures.kept.long (rw n at c.put-3.ensures.wrote)
    _ _ c.put_rows.ensures.kept.long (rw c.rows_in-listed.ensures at c.put_rows.ensures.wrote)
