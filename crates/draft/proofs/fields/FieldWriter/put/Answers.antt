use Rattle.std.proofs.Common.{◌≡◌, Some, sym, ap, ◌∙◌, arith}
use Rattle.bits.specs.Ink.{place}
use Rattle.book_fields.specs.Fields.{layout}
use Rattle.draft.proofs.Dues.{one_long, one_wrote}
use Rattle.draft.proofs.fields.FieldWriter.put.Goals as goal

pub put-requires-clause-room : goal.put-requires-clause-room
put-requires-clause-room c =
    let f = c.args.field in
    let at = place c.args.self.now.pen in
    let e : layout f at ≡ Some (c.in-Some.width, c.in-Some.added) = ap (layout f) (sym c.bit.ensures) ∙ sym c.in-Some.ensures.value in
    omega (arith, c.requires.room, one_long f c.args.value at c.in-Some.width c.in-Some.added e)

pub returns-in-Some-clause-wrote : goal.returns-in-Some-clause-wrote
returns-in-Some-clause-wrote c =
    let f = c.args.field in
    let e : layout f (place c.args.self.now.pen) ≡ Some (c.in-Some.width, c.in-Some.added) = ap (layout f) (sym c.bit.ensures) ∙ sym c.in-Some.ensures.value in
    one_wrote f c.args.value c.in-Some.width c.in-Some.added _ _ _ _ e c.put.ensures.ink c.put.ensures.on c.put.ensures.rest
