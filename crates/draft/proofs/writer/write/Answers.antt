use Rattle.std.proofs.Common.{◌≡◌, length, Ok, sym, ap, ◌∙◌, arith}
use Rattle.grammar.specs.Grammar.{book}
use Rattle.grammar.specs.Layout.{contents_of}
use Rattle.book_source.specs.Readings.{told}
use Rattle.draft.specs.Drafts.{in_draft}
use Rattle.draft.specs.Written.{counted, overwritten}
use Rattle.draft.proofs.WriteDraft.{letters_spelled, letters_short, parts_valid, parts_fit, write_value, write_reread}
use Rattle.draft.proofs.writer.write.Goals as goal

pub write_parts-requires : goal.write_parts-requires
write_parts-requires c =
    let d = c.args.draft.now in
    let i = c.in_ok-index.index in
    let rows = c.read_from.new.out in
    let names = c.read_from.new.names in
    let is : book (in_draft d) 0 ≡ Ok (contents_of rows names i, c.read_from.new.source.at) = (λ t. book (in_draft (sym c.new-source.ensures.draft t)) (sym c.new-source.ensures.at t))
    ∙ sym c.read_from.ensures.value ∙ ap (λ r. told (contents_of rows names) r c.read_from.new.source.at) c.in_ok-index.was in
    let h = c.in_ok-index.ensures.shape in
    record {
      parts = record {
        valid = parts_valid d rows names i _ is h (omega (arith, c.read_from.auto.names));
        spelled = letters_spelled d rows names i _ is h (omega (arith, c.read_from.auto.names));
        short = letters_short d rows names i _ is h (omega (arith, c.read_from.auto.names));
      };
      fit = parts_fit d rows names i _ is h (omega (arith, c.read_from.auto.names));
    }

pub returns : goal.returns
returns c =
    let d = c.args.draft.now in
    let i = c.in_ok-index.index in
    let rows = c.read_from.new.out in
    let names = c.read_from.new.names in
    let is : book (in_draft d) 0 ≡ Ok (contents_of rows names i, c.read_from.new.source.at) = (λ t. book (in_draft (sym c.new-source.ensures.draft t)) (sym c.new-source.ensures.at t))
    ∙ sym c.read_from.ensures.value ∙ ap (λ r. told (contents_of rows names) r c.read_from.new.source.at) c.in_ok-index.was in
    let h = c.in_ok-index.ensures.shape in
    let room = length c.args.out.now in
    let value = write_value d rows names i _ is h (omega (arith, c.read_from.auto.names)) room in
    record {
      value = c.write_parts.ensures.value ∙ ap counted value;
      out = c.write_parts.ensures.out ∙ ap (λ r. overwritten r c.args.out.now) value;
      inside = c.write_parts.ensures.inside;
      reread = write_reread d rows names i _ is h (omega (arith, c.read_from.auto.names)) room c.args.out.now c.write_parts.result c.write_parts.new.out c.write_parts.ensures.value c.write_parts.ensures.out;
    }
