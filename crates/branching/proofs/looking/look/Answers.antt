use Rattle.std.proofs.Common.{get_or, refl}
use Rattle.branching.specs.Looks.{no_value, seen_box}
use Rattle.branching.proofs.Singles.{one_value}
use Rattle.branching.proofs.looking.look.Goals as goal

pub returns-in_default : goal.returns-in_default
returns-in_default g c = no_value c.in_default.ensures

pub returns-in_default-pick : goal.returns-in_default-pick
returns-in_default-pick g c = (c.in-Some.ensures, λ x l. one_value (get_or c.in-Some.next.sets x 0) (c.in-Some.ensures.propagated.some x l) (c.in_default-pick.ensures x l), refl)

pub returns-then-seek : goal.returns-then-seek
returns-then-seek g c =
    let e = c.if-seek.ensures in
    seen_box c.in-Some.ensures c.in-Some-pick.ensures e.1 (e.2.0 refl) e.3
