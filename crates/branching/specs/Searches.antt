-- What is said of a search as a whole.
use Rattle.std.specs.Prelude.{◌≤◌, List, sum}
use Rattle.grammar.specs.Contents.{Contents}
use Rattle.stack.specs.Views.{on, room}
use Rattle.trail.specs.declared.search.Search.{Search}
use Rattle.branching.specs.Frames.{Frame, frames, Paired}

-- its open trials, the last first
abbrev pub frames_of : Search → List Frame
frames_of s = frames (on s.branches) (on s.trail) s.sets

-- its two stacks and its sets go together
abbrev pub IsPaired : Contents → Search → Type 0
IsPaired c s = Paired c (on s.branches) (on s.trail) s.sets

-- each stack has room for every value of every option
pub record IsRoomy (c : Contents) (s : Search) : Type 0 where
  pub branches : sum c.sizes ≤ room s.branches
  pub trail : sum c.sizes ≤ room s.trail
