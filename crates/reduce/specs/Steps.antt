-- What the steps of making a box promise one another.
use Rattle.std.specs.Prelude.{◌≡◌, ℕ, ◌⊎◌, List}
use Rattle.grammar.specs.Contents.{Table}
use Rattle.values.specs.Members.{In}
use Rattle.propagate.specs.Sets.{Sets}
use Rattle.propagate.specs.Support.{Mentions}
use Rattle.reduce.specs.Universal.{Free}

-- the options of a scope put into a set of options
pub record Marks (before : ℕ) (scope : List ℕ) (after : ℕ) : Type 0 where
  pub only : (x : ℕ) → In after x → In before x ⊎ Mentions scope x
  pub all : (x : ℕ) → In before x ⊎ Mentions scope x → In after x

-- the options that some table binds: one with the option in its scope that is not universal
pub record Binds (sets : Sets) (tables : List Table) (bound : ℕ) : Type 0 where
  pub free : (x : ℕ) → (In bound x → ⊥) → Free sets tables x
  pub tied : (x : ℕ) → In bound x → Free sets tables x → ⊥

-- what a box records of an option with this set: the set where a table binds the option and the set is not whole
pub record Records (tied whole : Type 0) (set noted : ℕ) : Type 0 where
  pub kept : tied → (whole → ⊥) → noted ≡ set
  pub unbound : (tied → ⊥) → noted ≡ 0
  pub dropped : whole → noted ≡ 0
