use Rattle.std.proofs.Common.{◌+◌, ◌*◌, ◌/◌, map, length, sum_by, sum, sym, ap, ◌∙◌, arith}
use Rattle.std.proofs.lemmas.List.{take_all, length-map}
use Rattle.grammar.specs.Layout.{table_of}
use Rattle.grammar.proofs.Cuts.{cut_lengths}
use Rattle.draft.specs.Lengths.{table_bits_of}
use Rattle.draft.proofs.TableDues.{valid_at, bits_more}
use Rattle.draft.proofs.writer.file_length.Goals as goal

pub table_bits-bits-requires : goal.table_bits-bits-requires
table_bits-bits-requires c =
    let p = c.args.parts.now in
    let v = valid_at p.rows.now p.tables.now c.loop-table.table-index c.loop-table-test.true p.sizes.now c.requires.parts.valid.tables in
    record { few = v.few; short = v.short }

pub loop-table-preserved : goal.loop-table-preserved
loop-table-preserved c =
    let p = c.args.parts.now in
    (omega (arith, c.loop-table.invariant.0, c.table_bits-bits.ensures.value, bits_more p.rows.now p.tables.now c.loop-table.table-index c.loop-table-test.true), omega (arith, c.loop-table.invariant.1, c.table_bits-bits.ensures.small))

pub returns : goal.returns
returns c =
    let p = c.args.parts.now in
    let ts = map (table_of p.rows.now) p.tables.now in
    let all = take_all c.loop-table.table-index ts (omega (arith, length-map p.tables.now (table_of p.rows.now), c.loop-table-test.false)) in
    let bits = c.loop-table.invariant.0 ∙ ap (λ l. 19 + 10 * length p.sizes.now + sum_by table_bits_of l) all in
    let names = c.requires.parts.spelled ∙ ap sum (sym (cut_lengths p.letters.now p.lengths.now (omega (arith, c.requires.parts.spelled)))) in
    (λ i. (bits i + 7) / 8 + names i)
