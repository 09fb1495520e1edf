-- What two steps leave.
use Rattle.std.proofs.Common.{◌∙◌}
use Rattle.trail.specs.declared.search.Search.{Search}
use Rattle.trail.specs.Rooms.{OnTrail, SameRooms}

pub rooms_then : {a b c : Search} → SameRooms a b → SameRooms b c → SameRooms a c
rooms_then r s = record { branches = s.branches ∙ r.branches; trail = s.trail ∙ r.trail }

pub on_trail_then : {a b c : Search} → OnTrail a b → OnTrail b c → OnTrail a c
on_trail_then r s = record { branches = s.branches ∙ r.branches; room = s.room ∙ r.room }
