use Rattle.std.proofs.Common.{rules}
use Rattle.boxes.proofs.Equal.{equal_decides}
use Rattle.store.proofs.Turns.{decides_newest}
use Rattle.store.proofs.ring.RingStore.has.Goals as goal

pub returns : goal.returns
returns c =
    let s = c.args.self.now in
    decides_newest _ equal_decides s.places s.next 64 _ s.full _ _ c.contains.ensures.cases (search rules) (search rules)
