use Rattle.std.proofs.Common.{◌<◌, ◌≤◌, length, refl, arith}
use Rattle.std.proofs.lemmas.List.{length-take-le}
use Rattle.trail.proofs.Adopting.{adopted_none, adopted_same, adopted_more, adopted_room, adopted_all}
use Rattle.trail.proofs.Kept.{on_trail_then}
use Rattle.trail.proofs.search.Search.adopt.Goals as goal
use Rattle.trail.proofs.search.Search.adopt.Goals.{then-self-x, else-self-x}

pub loop-x-init : goal.loop-x-init
loop-x-init c = (adopted_none _ _ _ _ _ c.requires.room, record { branches = refl; room = refl })

pub narrow-requires-clause-room : goal.narrow-requires-clause-room
narrow-requires-clause-room c =
    let l = c.loop-x in
    omega (arith, adopted_room _ _ _ _ _ _ _ _ l.invariant.0 (omega (arith, c.requires.few, c.told-next)) c.loop-x-test.true c.requires.inside (omega (arith, l.self.long, c.requires.few)) c.if-self-x.true, l.invariant.1.room)

pub loop-x-preserved : goal.loop-x-preserved
loop-x-preserved c =
    let l = c.loop-x in
    let few : c.args.options ≤ length c.args.next.now = omega (arith, c.requires.few, c.told-next) in
    let within : l.x < length l.self.sets = omega (arith, l.self.long, few, c.loop-x-test.true, length-take-le c.args.options c.args.next.now few, c.told-next) in
    elim c.if-self-x.branch [
      | then-self-x w ↦ rw w.self-is (
        adopted_more _ _ _ _ _ _ _ _ l.invariant.0 few c.loop-x-test.true c.requires.inside within w.if-self-x.true _ _ w.narrow.ensures.sets w.narrow.ensures.trail,
        on_trail_then l.invariant.1 w.narrow.ensures.rest,
      )
      | else-self-x w ↦ rw w.self-is (adopted_same _ _ _ _ _ _ _ _ l.invariant.0 few c.loop-x-test.true _ _ refl refl w.if-self-x.false, l.invariant.1)
    ]

pub returns-clause-sets : goal.returns-clause-sets
returns-clause-sets c =
    let l = c.loop-x in
    adopted_all _ _ _ _ _ l.x _ _ l.invariant.0 (omega (arith, c.requires.few, c.told-next)) (omega (arith, c.loop-x-test.false)) (omega (arith, l.self.long, c.told-next)) c.requires.rest
