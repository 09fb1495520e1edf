-- What calls leave of the slices that are lent to them.
use Rattle.std.specs.Borrow.{MutBor}
use Rattle.std.specs.Prelude.{◌≡◌, List, length}
use Rattle.ask.specs.declared.kinds.Work.{Work}

-- still the same slice, as long as it was
pub record SameSlice {T : Type 0} (before after : MutBor (List T)) : Type 0 where
  pub slice : after.ghost_name ≡ before.ghost_name
  pub long : length after.now ≡ length before.now

-- the three slices are still the same ones, each as long as it was
pub record SameSlices (before after : Work) : Type 0 where
  pub branches : SameSlice before.branches after.branches
  pub trail : SameSlice before.trail after.trail
  pub fit : SameSlice before.fit after.fit
