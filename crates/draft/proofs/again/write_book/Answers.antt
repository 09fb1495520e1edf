use Rattle.std.proofs.Common.{length, ap, ◌∙◌}
use Rattle.draft.specs.Written.{counted, fitted, overwritten}
use Rattle.draft.proofs.Rewriting.{told_valid, told_fit, told_spelled, told_short, told_bytes, rewrote}
use Rattle.draft.proofs.again.write_book.Goals as goal

pub write_parts-requires : goal.write_parts-requires
write_parts-requires c =
    let b = c.args.book.now in
    record {
      parts = record {
        valid = told_valid b _ _ _ _ _ c.sizes.ensures.value c.lengths.ensures c.tables.ensures c.rows.ensures c.letters.ensures;
        spelled = told_spelled b _ _ _ _ _ c.sizes.ensures.value c.lengths.ensures c.tables.ensures c.rows.ensures c.letters.ensures;
        short = told_short b _ _ _ _ _ c.sizes.ensures.value c.lengths.ensures c.tables.ensures c.rows.ensures c.letters.ensures;
      };
      fit = told_fit b _ _ _ _ _ c.sizes.ensures.value c.lengths.ensures c.tables.ensures c.rows.ensures c.letters.ensures;
    }

pub returns : goal.returns
returns c =
    let is = told_bytes c.args.book.now _ _ _ _ _ c.sizes.ensures.value c.lengths.ensures c.tables.ensures c.rows.ensures c.letters.ensures in
    let room = length c.args.out.now in
    let value = c.write_parts.ensures.value ∙ ap (λ f. counted (fitted f room)) is in
    let change = c.write_parts.ensures.out ∙ ap (λ f. overwritten (fitted f room) c.args.out.now) is in
    record {
      value = value;
      out = change;
      inside = c.write_parts.ensures.inside;
      rewritten = rewrote c.args.book.now.file.now c.args.out.now c.write_parts.new.out room c.write_parts.result value change;
    }
