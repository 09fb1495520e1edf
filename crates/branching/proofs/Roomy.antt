-- A search keeps its room.
use Rattle.std.proofs.Common.{arith}
use Rattle.grammar.specs.Contents.{Contents}
use Rattle.trail.specs.declared.search.Search.{Search}
use Rattle.trail.specs.Rooms.{SameRooms}
use Rattle.branching.specs.Searches.{IsRoomy}

pub still_roomy : (c : Contents) {s t : Search} → IsRoomy c s → SameRooms s t → IsRoomy c t
still_roomy c r k = record { branches = omega (arith, r.branches, k.branches); trail = omega (arith, r.trail, k.trail) }
