use Rattle.std.proofs.Common.{◌+◌, [], ◌∷◌, get_or, drop}
use Rattle.std.proofs.lemmas.List.{at_drop_more, at_drop_all}
use Rattle.draft.specs.Entries.{numbered}
use Rattle.draft.specs.Writing.{field_at}
use Rattle.draft.proofs.Dues.{kept_on, due_ready, due_more, due_all}
use Rattle.draft.proofs.fields.FieldWriter.put_run.Goals as goal

pub put-requires : goal.put-requires
put-requires c =
    let f = field_at c.args.run in
    let j = c.loop-j.j in
    let parts = at_drop_more (numbered f j) c.args.values.now j 0 c.loop-j-test.true in
    rw c.field.ensures (due_ready _ _ _ _ _ _ ((f j, get_or c.args.values.now j 0) ∷ []) (numbered f (j + 1) (drop (j + 1) c.args.values.now)) c.loop-j.invariant.due parts)

pub loop-j-preserved : goal.loop-j-preserved
loop-j-preserved c =
    let f = field_at c.args.run in
    let j = c.loop-j.j in
    let parts = at_drop_more (numbered f j) c.args.values.now j 0 c.loop-j-test.true in
    record { due = due_more _ _ _ _ _ _ ((f j, get_or c.args.values.now j 0) ∷ []) (numbered f (j + 1) (drop (j + 1) c.args.values.now)) c.loop-j.invariant.due parts _ _ c.put.ensures.kept.long (rw c.field.ensures at c.put.ensures.wrote); kept = kept_on _ _ _ c.put.ensures.kept c.loop-j.invariant.kept }

pub returns-clause-wrote : goal.returns-clause-wrote
returns-clause-wrote c =
    due_all _ _ _ _ _ _ c.loop-j.invariant.due (at_drop_all (numbered (field_at c.args.run) c.loop-j.j) c.args.values.now c.loop-j.j c.loop-j-test.false)
