use Rattle.std.proofs.Common.{◌≡◌, ℕ, ◌+◌, ◌<◌, List, [], ◌++◌, map, length, get_or, take, drop, ap, ◌∙◌, add_assoc}
use Rattle.std.proofs.lemmas.List.{at_drop_more, at_drop_all}
use Rattle.book_fields.specs.declared.field.Field.{Field}
use Rattle.draft.specs.Entries.{numbered, row_fields}
use Rattle.draft.proofs.Dues.{kept_on, due_ready, due_more, due_all}
use Rattle.draft.proofs.fields.FieldWriter.put_rows.Goals as goal

split : (t first arity : ℕ) (rows : List (List ℕ)) (i : ℕ) → i < length rows
    → row_fields t (first + i) (map (take arity) (drop i rows)) ≡ numbered (Field.Value t (first + i)) 0 (take arity (get_or rows i [])) ++ row_fields t (first + (i + 1)) (map (take arity) (drop (i + 1) rows))
split t first arity rows i h =
    at_drop_more (λ l. row_fields t (first + i) (map (take arity) l)) rows i [] h
    ∙ ap (λ k. numbered (Field.Value t (first + i)) 0 (take arity (get_or rows i [])) ++ row_fields t k (map (take arity) (drop (i + 1) rows))) (add_assoc first i 1)

pub put_run-requires : goal.put_run-requires
put_run-requires c =
    rw c.own_values.ensures (due_ready _ _ _ _ _ _ _ _ c.loop-i.invariant.due (split c.args.number c.args.first c.args.table.now.arity c.args.rows.now c.loop-i.i c.loop-i-test.true))

pub loop-i-preserved : goal.loop-i-preserved
loop-i-preserved c =
    record { due = due_more _ _ _ _ _ _ _ _ c.loop-i.invariant.due (split c.args.number c.args.first c.args.table.now.arity c.args.rows.now c.loop-i.i c.loop-i-test.true) _ _ c.put_run.ensures.kept.long (rw c.own_values.ensures at c.put_run.ensures.wrote); kept = kept_on _ _ _ c.put_run.ensures.kept c.loop-i.invariant.kept }

pub returns-clause-wrote : goal.returns-clause-wrote
returns-clause-wrote c =
    due_all _ _ _ _ _ _ c.loop-i.invariant.due (at_drop_all (λ l. row_fields c.args.number (c.args.first + c.loop-i.i) (map (take c.args.table.now.arity) l)) c.args.rows.now c.loop-i.i c.loop-i-test.false)
