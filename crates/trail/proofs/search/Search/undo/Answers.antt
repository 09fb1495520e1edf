use Rattle.std.proofs.Common.{◌<◌, length, sym, ◌∙◌, arith}
use Rattle.stack.specs.Views.{on}
use Rattle.trail.proofs.Undone.{undone_one, until_one}
use Rattle.trail.proofs.search.Search.undo.Goals as goal

pub undoing-preserved-in-Some : goal.undoing-preserved-in-Some
undoing-preserved-in-Some c =
    let i = c.undoing.invariant in
    let e = c.in-Some.ensures in
    let m = c.args.mark in
    let us = on c.undoing.self.trail in
    let ts = on c.pop.new.self in
    let h : m < length us = omega (arith, c.depth.ensures, c.undoing-test.true) in
    ((rw e.got at i.0).1, sym (undone_one m c.in-Some.saved ts us c.undoing.self.sets e.got h) ∙ i.1, sym (until_one m c.in-Some.saved ts us c.undoing.self.sets e.got h) ∙ i.2, record { branches = i.3.branches; room = e.room ∙ i.3.room })
