use Rattle.std.proofs.lemmas.List.{length-map}
use Rattle.grammar.specs.Layout.{table_of}
use Rattle.draft.proofs.BookDues.{edition_ready, options_ready, number_ready, shapes_ready, tables_ready, filling_ready, names_ready, fields_wrote, even_parts}
use Rattle.draft.proofs.fields.FieldWriter.put_parts.Goals as goal

pub put-requires : goal.put-requires
put-requires c = edition_ready _ _ _ _ _ c.requires.parts.spelled (length-map c.args.parts.now.tables.now (table_of c.args.parts.now.rows.now)) _ _ c.requires.ready

pub put-requires-2 : goal.put-requires-2
put-requires-2 c = options_ready _ _ _ _ _ c.requires.parts.spelled (length-map c.args.parts.now.tables.now (table_of c.args.parts.now.rows.now)) _ _ c.requires.ready
    _ _ c.put.ensures.kept.long c.put.ensures.wrote

pub put-requires-3 : goal.put-requires-3
put-requires-3 c = number_ready _ _ _ _ _ c.requires.parts.spelled (length-map c.args.parts.now.tables.now (table_of c.args.parts.now.rows.now)) _ _ c.requires.ready
    _ _ c.put.ensures.kept.long c.put.ensures.wrote
    _ _ c.put-2.ensures.kept.long c.put-2.ensures.wrote

pub put_options-requires : goal.put_options-requires
put_options-requires c = record {
  even = even_parts _ _ _ _ c.requires.parts.spelled c.requires.parts.valid;
  ready = shapes_ready _ _ _ _ _ c.requires.parts.spelled (length-map c.args.parts.now.tables.now (table_of c.args.parts.now.rows.now)) _ _ c.requires.ready
      _ _ c.put.ensures.kept.long c.put.ensures.wrote
      _ _ c.put-2.ensures.kept.long c.put-2.ensures.wrote
      _ _ c.put-3.ensures.kept.long c.put-3.ensures.wrote;
}

pub put_tables-requires-clause-ready : goal.put_tables-requires-clause-ready
put_tables-requires-clause-ready c =
    tables_ready _ _ _ _ _ c.requires.parts.spelled (length-map c.args.parts.now.tables.now (table_of c.args.parts.now.rows.now)) _ _ c.requires.ready
    _ _ c.put.ensures.kept.long c.put.ensures.wrote
    _ _ c.put-2.ensures.kept.long c.put-2.ensures.wrote
    _ _ c.put-3.ensures.kept.long c.put-3.ensures.wrote
    _ _ c.put_options.ensures.kept.long c.put_options.ensures.wrote

pub put-requires-4 : goal.put-requires-4
put-requires-4 c = filling_ready _ _ _ _ _ c.requires.parts.spelled (length-map c.args.parts.now.tables.now (table_of c.args.parts.now.rows.now)) _ _ c.requires.ready
    _ _ c.put.ensures.kept.long c.put.ensures.wrote
    _ _ c.put-2.ensures.kept.long c.put-2.ensures.wrote
    _ _ c.put-3.ensures.kept.long c.put-3.ensures.wrote
    _ _ c.put_options.ensures.kept.long c.put_options.ensures.wrote
    _ _ c.put_tables.ensures.kept.long c.put_tables.ensures.wrote

pub put_run-requires : goal.put_run-requires
put_run-requires c = names_ready _ _ _ _ _ c.requires.parts.spelled (length-map c.args.parts.now.tables.now (table_of c.args.parts.now.rows.now)) _ _ c.requires.ready
    _ _ c.put.ensures.kept.long c.put.ensures.wrote
    _ _ c.put-2.ensures.kept.long c.put-2.ensures.wrote
    _ _ c.put-3.ensures.kept.long c.put-3.ensures.wrote
    _ _ c.put_options.ensures.kept.long c.put_options.ensures.wrote
    _ _ c.put_tables.ensures.kept.long c.put_tables.ensures.wrote
    _ _ c.put-4.ensures.kept.long c.put-4.ensures.wrote

pub returns-clause-wrote : goal.returns-clause-wrote
returns-clause-wrote c =
    fields_wrote _ _ _ _ _ c.requires.parts.spelled (length-map c.args.parts.now.tables.now (table_of c.args.parts.now.rows.now)) _ _ c.requires.ready
    _ _ c.put.ensures.kept.long c.put.ensures.wrote
    _ _ c.put-2.ensures.kept.long c.put-2.ensures.wrote
    _ _ c.put-3.ensures.kept.long c.put-3.ensures.wrote
    _ _ c.put_options.ensures.kept.long c.put_options.ensures.wrote
    _ _ c.put_tables.ensures.kept.long c.put_tables.ensures.wrote
    _ _ c.put-4.ensures.kept.long c.put-4.ensures.wrote _ _ c.put_run.ensures.kept.long c.put_run.ensures.wrote
