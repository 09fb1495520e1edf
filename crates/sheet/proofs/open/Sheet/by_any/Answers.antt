use Rattle.sheet.proofs.Unions.{any_sound, any_whole}
use Rattle.sheet.proofs.open.Sheet.by_any.Goals as goal

pub returns : goal.returns
returns c = record {
  sound = any_sound c.args.self.now.sets c.args.kind c.args.option _ _ c.place.ensures.value c.place-2.ensures.value;
  whole = any_whole c.args.self.now.sets c.args.kind c.args.option _ _ c.place.ensures.value c.place-2.ensures.value;
}
