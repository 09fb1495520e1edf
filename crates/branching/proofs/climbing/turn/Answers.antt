use Rattle.std.proofs.Common.{get_or, set, ap, ◌∙◌}
use Rattle.branching.proofs.Singles.{without_is}
use Rattle.branching.proofs.climbing.turn.Goals as goal

pub returns-clause-sets : goal.returns-clause-sets
returns-clause-sets c =
    let a = c.args in
    c.open.ensures.sets ∙ ap (set a.search.now.sets a.option) (without_is (get_or a.search.now.sets a.option 0) a.value _ c.requires.member c.without-set.ensures)
