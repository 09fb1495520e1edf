use Rattle.std.proofs.Common.{◌≡◌, ◌+◌, map, length, get_or, take, drop, sym, ap, ◌∙◌, subst, arith}
use Rattle.std.proofs.lemmas.List.{length-map, at_drop_all}
use Rattle.grammar.specs.Layout.{table_of}
use Rattle.draft.specs.Entries.{tables_fields}
use Rattle.draft.proofs.Dues.{kept_on, Due, due_ready, due_more, due_all}
use Rattle.draft.proofs.TableDues.{blank, tables_split, counts_split}
use Rattle.draft.proofs.fields.FieldWriter.put_tables.Goals as goal

pub put_table-requires-clause-ready : goal.put_table-requires-clause-ready
put_table-requires-clause-ready c =
    let rows = c.args.rows.now in
    let tables = c.args.tables.now in
    let i = c.loop-i.i in
    due_ready _ _ _ _ _ _ _ _ c.loop-i.invariant.due (tables_split rows tables i c.loop-i.first c.loop-i-test.true)

pub loop-i-preserved : goal.loop-i-preserved
loop-i-preserved c =
    let rows = c.args.rows.now in
    let tables = c.args.tables.now in
    let i = c.loop-i.i in
    let t = get_or tables i blank in
    let n : length c.rows_in.result.now ≡ length (table_of rows t).rows = ap length c.rows_in.ensures ∙ sym (length-map (take t.count (drop t.start rows)) (take t.arity)) in record {
      due = subst (λ k. Due c.args.self.now.out.now c.args.self.now.pen c.put_table.new.self.out.now c.put_table.new.self.pen (tables_fields 0 0 (map (table_of rows) tables)) (tables_fields (i + 1) (c.loop-i.first + k) (map (table_of rows) (drop (i + 1) tables)))) (sym n)
          (due_more _ _ _ _ _ _ _ _ c.loop-i.invariant.due (tables_split rows tables i c.loop-i.first c.loop-i-test.true) _ _ c.put_table.ensures.kept.long c.put_table.ensures.wrote);
      few = omega (arith, c.loop-i.invariant.few, counts_split rows tables i c.loop-i-test.true, n);
      kept = kept_on _ _ _ c.put_table.ensures.kept c.loop-i.invariant.kept;
    }

pub returns-clause-wrote : goal.returns-clause-wrote
returns-clause-wrote c =
    due_all _ _ _ _ _ _ c.loop-i.invariant.due (at_drop_all (λ l. tables_fields c.loop-i.i c.loop-i.first (map (table_of c.args.rows.now) l)) c.args.tables.now c.loop-i.i c.loop-i-test.false)
