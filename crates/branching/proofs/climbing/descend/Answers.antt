use Rattle.std.proofs.Common.{length, set, ap, ◌∙◌, arith}
use Rattle.book.specs.Books.{contents}
use Rattle.stack.specs.Views.{on, room}
use Rattle.stack.specs.declared.lent.Stack.{Stack}
use Rattle.trail.specs.declared.kinds.Branch.{Branch}
use Rattle.branching.proofs.Descents.{inside_start, small_value, descent_room, descent_frames, descent_paired}
use Rattle.branching.proofs.climbing.descend.Goals as goal

pub adopt-requires-clause-inside : goal.adopt-requires-clause-inside
adopt-requires-clause-inside c = λ x v l. inside_start (contents c.args.book.now) _ _ c.requires.narrows.propagated x v (omega (arith, ap length c.sizes-options.ensures.value))

pub only-requires : goal.only-requires
only-requires c = small_value c.args.book.now _ _ c.args.option c.args.value c.requires.narrows.propagated c.requires.picked

pub open-requires-clause-branch : goal.open-requires-clause-branch
open-requires-clause-branch c =
    let s = c.adopt.ensures in
    let r = descent_room c.args.book.now _ (ap length c.sizes-options.ensures.value) _ _ _ _ _ s.saves s.sets c.told-next c.args.option c.args.value c.requires.picked _ c.requires.paired in
    omega (arith, r.1, c.requires.rooms.branches, ap (λ (k : Stack Branch). length (on k)) s.rest.branches, ap (λ (k : Stack Branch). room k) s.rest.branches)

pub open-requires-clause-save : goal.open-requires-clause-save
open-requires-clause-save c =
    let s = c.adopt.ensures in
    let r = descent_room c.args.book.now _ (ap length c.sizes-options.ensures.value) _ _ _ _ _ s.saves s.sets c.told-next c.args.option c.args.value c.requires.picked _ c.requires.paired in
    omega (arith, r.0, c.requires.rooms.trail, s.rest.room)

pub returns-clause-frames : goal.returns-clause-frames
returns-clause-frames c =
    let s = c.adopt.ensures in
    let o = c.open.ensures in
    descent_frames c.args.book.now _ (ap length c.sizes-options.ensures.value) _ _ _ _ _ s.saves s.sets c.told-next c.args.option c.args.value c.requires.picked _ c.requires.paired _ _ _ _
    (ap (λ (k : Stack Branch). on k) s.rest.branches) o.branches o.trail (o.sets ∙ ap (set c.adopt.new.self.sets c.args.option) c.only.ensures)

pub returns-clause-paired : goal.returns-clause-paired
returns-clause-paired c =
    let s = c.adopt.ensures in
    let o = c.open.ensures in
    descent_paired c.args.book.now _ (ap length c.sizes-options.ensures.value) _ _ _ _ _ s.saves s.sets c.told-next c.args.option c.args.value c.requires.picked _ c.requires.paired _ _ _ _
    (ap (λ (k : Stack Branch). on k) s.rest.branches) o.branches o.trail (o.sets ∙ ap (set c.adopt.new.self.sets c.args.option) c.only.ensures)
