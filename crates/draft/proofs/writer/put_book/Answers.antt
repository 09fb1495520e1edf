use Rattle.std.proofs.Common.{length, ap, ◌<◌, ◌∙◌, arith, rules}
use Rattle.std.proofs.ByRecursion.{All-from_get_or}
use Rattle.draft.specs.Written.{contents_in}
use Rattle.draft.proofs.BookDues.{book_ready, book_wrote}
use Rattle.draft.proofs.writer.put_book.Goals as goal

pub put_parts-requires-clause-ready : goal.put_parts-requires-clause-ready
put_parts-requires-clause-ready c =
    let w = c.new-writer.ensures in
    book_ready (contents_in c.args.parts.now) c.requires.parts.valid c.requires.fit _ _ (ap length w.out ∙ c.requires.long) w.at w.count w.held

pub returns : goal.returns
returns c =
    let w = c.new-writer.ensures in
    let put = c.put_parts.new.self in
    book_wrote (contents_in c.args.parts.now) c.requires.parts.valid c.requires.fit _ _ (ap length w.out ∙ c.requires.long) w.at w.count w.held put.out.now put.pen c.put_parts.ensures.kept.long c.put_parts.ensures.wrote
    _ (search rules) (All-from_get_or (λ b. b < 256) _ 0 (λ i h. omega (arith, c.type_inv.out i)))
