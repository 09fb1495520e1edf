use Rattle.std.proofs.Common.{length}
use Rattle.book.specs.Books.{contents}
use Rattle.stack.specs.Views.{on}
use Rattle.trail.specs.Rooms.{SameRooms}
use Rattle.branching.specs.Searches.{frames_of, IsPaired}
use Rattle.branching.proofs.Rises.{Climbing}
use Rattle.branching.proofs.climbing.climb.Given as goal

abbrev pub invariant-climbing : goal.invariant-climbing
invariant-climbing g l =
    IsPaired (contents l.book) l.search
    × Climbing (contents l.book) g.row.S.Denot g.S.Store (frames_of l.initial.search) l.initial.store (frames_of l.search) l.store
    × SameRooms l.initial.search l.search

abbrev pub decreases-climbing : goal.decreases-climbing
decreases-climbing g l = length (on l.search.branches)
