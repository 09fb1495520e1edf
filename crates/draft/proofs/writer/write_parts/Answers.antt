use Rattle.std.proofs.Common.{◌≡◌, length, Err, sym, ap, ◌∙◌, arith}
use Rattle.draft.specs.Encoding.{encode}
use Rattle.draft.specs.Written.{contents_in}
use Rattle.draft.proofs.Fitting.{no_value, no_change, put_value, put_change}
use Rattle.draft.proofs.Trips.{length_encode}
use Rattle.draft.proofs.writer.write_parts.Goals as goal

pub returns : goal.returns
returns c =
    let p = contents_in c.args.parts.now in
    let n : length (encode p) ≡ c.file_length-needed.result = length_encode p c.requires.parts.valid ∙ sym c.file_length-needed.ensures in
    record {
      value = put_value (encode p) c.args.out.now _ n c.if-out-needed.false;
      out = put_change (encode p) c.args.out.now _ n _ c.put_book.ensures c.if-out-needed.false;
      inside = omega (arith, c.if-out-needed.false, c.put_book.auto.out);
    }

pub returns-then-out-needed : goal.returns-then-out-needed
returns-then-out-needed c =
    let p = contents_in c.args.parts.now in
    let n : length (encode p) ≡ c.file_length-needed.result = length_encode p c.requires.parts.valid ∙ sym c.file_length-needed.ensures in
    record { value = ap Err c.whole.ensures ∙ no_value (encode p) c.args.out.now _ n c.if-out-needed.true; out = no_change (encode p) c.args.out.now _ n c.if-out-needed.true; inside = tt }
