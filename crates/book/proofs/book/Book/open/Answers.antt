use Rattle.std.proofs.Common.{length}
use Rattle.book.proofs.ValidFiles.{parse_valid}
use Rattle.book.proofs.book.Book.open.Goals as goal

pub invariant_of-result : goal.invariant_of-result
invariant_of-result c =
    let r = c.requires in
    record {
      few = r.few;
      tabled = r.tabled;
      spelled = r.spelled;
      inside = r.inside;
      bytes = r.bytes;
      read = ∣ r.is ∣₁;
      valid = ∣ parse_valid c.args.file.now (length c.args.rows.now) _ r.is ∣₁;
    }
