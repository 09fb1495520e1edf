-- The values that standing decisions leave: the sets with which an ask starts.
use Rattle.std.specs.Prelude.{◌≡◌, ℕ, ◌<◌, ◌≤◌, Bool, true, List, length, slice_index}
use Rattle.grammar.specs.Contents.{Contents}
use Rattle.values.specs.Members.{In}
use Rattle.sheet.specs.declared.decision.Kind.{Kind}
use Rattle.sheet.specs.declared.decision.Kind.TheVariants.{Fix, Bar}
use Rattle.sheet.specs.Decisions.{is_person}

-- what stands: of a person, a kind, an option and a value, whether the person's decision stands
abbrev pub Standing : Type 0
Standing = ℕ → Kind → ℕ → ℕ → Bool

-- a decision stands, of one person or the other
abbrev pub ByAny : Standing → Kind → ℕ → ℕ → Type 0
ByAny stands kind option value = (person : ℕ) × (is_person person ≡ true) × (stands person kind option value ≡ true)

-- The decisions on an option leave it a value: no other value is fixed, and the value is not barred.
pub record Leaves (stands : Standing) (option value : ℕ) : Type 0 where
  pub fixed : (other : ℕ) → ByAny stands Fix option other → other ≡ value
  pub barred : ByAny stands Bar option value → ⊥

-- a set of fixed values and a set of barred ones leave a value
pub record Spares (fixed barred value : ℕ) : Type 0 where
  pub alone : (other : ℕ) → In fixed other → other ≡ value
  pub allowed : In barred value → ⊥

-- The starting sets give each option of the book those of its values that the decisions leave. Sets may be empty.
pub record Starts (c : Contents) (stands : Standing) (array : List ℕ) : Type 0 where
  pub long : length array ≡ 24
  pub sound : (x v : ℕ) → x < length c.sizes → In (slice_index array x) v → (v < slice_index c.sizes x) × Leaves stands x v
  pub whole : (x v : ℕ) → x < length c.sizes → v < slice_index c.sizes x → Leaves stands x v → In (slice_index array x) v
  pub lacking : (x : ℕ) → length c.sizes ≤ x → slice_index array x ≡ 0

-- a fit meets every standing decision on an option of the book
abbrev pub MeetsAll : Contents → Standing → List ℕ → Type 0
MeetsAll c stands values = (x : ℕ) → x < length c.sizes → Leaves stands x (slice_index values x)
