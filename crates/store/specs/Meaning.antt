-- The meaning of a store of type S as one value: what it holds, and the exact change that each of its calls makes.
-- In a clause of code over any `S: Store` this value is `S.Store`; in an answer of its proof, `g.S.Store`.
use Rattle.boxes.specs.declared.ValueBox.{ValueBox}
use Rattle.store.specs.declared.store.Store.{Ghosts}
use Rattle.store.specs.Holdings.{Nothing, Same, Grown}

abbrev pub Meaning : Type 0 → Type 1
Meaning S = Ghosts S

-- What each call of a store does, from s to t: the exact change, and what becomes of the boxes that are held.
pub record Emptied {S : Type 0} (m : Meaning S) (s t : S) : Type 0 where
  pub change : m.emptied s t
  pub nothing : Nothing (m.held t)

pub record Looked {S : Type 0} (m : Meaning S) (s : S) (b : ValueBox) (t : S) : Type 0 where
  pub change : m.looked s b t
  pub same : Same (m.held s) (m.held t)

pub record Told {S : Type 0} (m : Meaning S) (s : S) (b : ValueBox) (t : S) : Type 0 where
  pub change : m.told s b t
  pub grown : Grown (m.held s) b (m.held t)

-- each box that the store holds has the property P
abbrev pub HoldsOnly : {S : Type 0} → Meaning S → (ValueBox → Type 0) → S → Type 0
HoldsOnly m P s = (x : ValueBox) → m.held s x → P x
