use Rattle.std.proofs.Common.{◌≡◌, ◌-◌, ◌≤◌, Some}
use Rattle.book.specs.Books.{contents}
use Rattle.branching.specs.Frames.{Leads, Tried}
use Rattle.branching.specs.Searches.{frames_of, IsPaired, IsRoomy}
use Rattle.ask.proofs.asking.search.Given as goal

abbrev pub invariant-trials : goal.invariant-trials
invariant-trials g l =
    let S = g.row.S.Denot in
    let m = g.S.Store in
    let c = contents l.book in
    IsPaired c l.current
    × Leads c S m (Some l.budget) (frames_of l.current) l.current.sets l.store l.count (Tried c S m (Some l.budget) l.fn.sets l.initial.store 0)
    × (l.count ≤ l.budget)
    × IsRoomy c l.current
    × (l.fit ≡ l.initial.fit)

abbrev pub decreases-trials : goal.decreases-trials
decreases-trials g l = l.budget - l.count
