-- What a step leaves of a search besides its sets.
use Rattle.std.specs.Prelude.{◌≡◌}
use Rattle.stack.specs.Views.{room}
use Rattle.trail.specs.declared.search.Search.{Search}

-- both stacks have as much room as they had
pub record SameRooms (before after : Search) : Type 0 where
  pub branches : room after.branches ≡ room before.branches
  pub trail : room after.trail ≡ room before.trail

-- a step on the sets and the trail alone
pub record OnTrail (before after : Search) : Type 0 where
  pub branches : after.branches ≡ before.branches
  pub room : room after.trail ≡ room before.trail
