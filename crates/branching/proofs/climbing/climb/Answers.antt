use Rattle.std.proofs.Common.{◌-◌, ◌^◌, ◌<◌, [], length, get_or, refl, arith}
use Rattle.book.specs.Books.{contents}
use Rattle.book.proofs.Sizes.{valid}
use Rattle.stack.specs.Views.{on}
use Rattle.stack.proofs.Rooms.{on_room}
use Rattle.trail.specs.Trails.{branch}
use Rattle.trail.specs.declared.kinds.Side.TheVariants.{Right}
use Rattle.trail.proofs.Kept.{rooms_then}
use Rattle.branching.proofs.Singles.{ones_less}
use Rattle.branching.proofs.Opened.{shut, opened_as, paired_as, frames_none}
use Rattle.branching.proofs.Rises.{climbing_close, climbing_turn, climbing_done}
use Rattle.branching.proofs.climbing.climb.Goals as goal

pub climbing-preserved : goal.climbing-preserved
climbing-preserved g c =
    let i = c.climbing.invariant in
    let e = c.in-Some.ensures in
    let k = shut _ _ _ _ _ _ _ _ e.last i.0 in
    (k.paired, climbing_close _ _ _ _ _ _ _ i.1 _ c.in-Some.branch _ _ k.frames c.in-Right.is c.tell.ensures, rooms_then i.2 e.rooms)

pub turn-requires-clause-branch : goal.turn-requires-clause-branch
turn-requires-clause-branch g c =
    let e = c.in-Some.ensures in
    let k = shut _ _ _ _ _ _ _ _ e.last c.climbing.invariant.0 in
    omega (arith, on_room c.climbing.search.branches, k.fewer, e.rooms.branches)

pub turn-requires-clause-save : goal.turn-requires-clause-save
turn-requires-clause-save g c =
    let e = c.in-Some.ensures in
    let k = shut _ _ _ _ _ _ _ _ e.last c.climbing.invariant.0 in
    omega (arith, on_room c.climbing.search.trail, k.saves, e.rooms.trail)

pub returns-in-Left-clause-climbed : goal.returns-in-Left-clause-climbed
returns-in-Left-clause-climbed g c =
    let b = contents c.args.book.now in
    let x = c.in-Some.branch in
    let s = c.close.new.self in
    let k = shut _ _ _ _ _ _ _ _ c.in-Some.ensures.last c.climbing.invariant.0 in
    let o = c.turn.ensures in
    let y = branch x.option x.value Right (length (on s.trail)) in
    climbing_turn b _ _ _ _ _ _ c.climbing.invariant.1 s.sets x _ _ _ k.frames c.in-Left.is
    (opened_as b (valid c.args.book.now).few s.sets (get_or s.sets x.option 0 - 2 ^ x.value) y _ _ refl _ _ _ o.branches o.trail o.sets) o.sets

pub returns-in-Left-clause-paired : goal.returns-in-Left-clause-paired
returns-in-Left-clause-paired g c =
    let x = c.in-Some.branch in
    let s = c.close.new.self in
    let k = shut _ _ _ _ _ _ _ _ c.in-Some.ensures.last c.climbing.invariant.0 in
    let o = c.turn.ensures in
    let y = branch x.option x.value Right (length (on s.trail)) in
    let few = (valid c.args.book.now).few in
    let within : x.option < length s.sets = omega (arith, s.long, k.picked.known, few) in
    paired_as (contents c.args.book.now) few s.sets (get_or s.sets x.option 0 - 2 ^ x.value) y _ _ refl _ _ _ o.branches o.trail o.sets within
    (ones_less (get_or s.sets x.option 0) x.value k.picked.lowest.member) k.picked k.paired

pub returns-clause-climbed : goal.returns-clause-climbed
returns-clause-climbed g c =
    climbing_done (contents c.args.book.now) _ _ _ _ _ _ c.climbing.invariant.1 [] c.close.new.self.sets (frames_none _ _ _ c.in_default.ensures.last.none)
