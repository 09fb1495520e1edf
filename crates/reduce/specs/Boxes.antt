-- The box of some value sets, and what it is to meet it.
use Rattle.std.specs.Prelude.{◌≡◌, ℕ, ◌<◌, ◌≤◌, ◌⊎◌, List, length, slice_index}
use Rattle.grammar.specs.Contents.{Contents}
use Rattle.values.specs.Members.{In}
use Rattle.propagate.specs.Sets.{sets_of}
use Rattle.reduce.specs.Universal.{Free}

-- The set of the option is whole: it holds all its values of the book.
abbrev pub Whole : Contents → List ℕ → ℕ → Type 0
Whole c array x = (v : ℕ) → v < slice_index c.sizes x → In (sets_of c array x) v

abbrev pub LeftOut : Contents → List ℕ → ℕ → Type 0
LeftOut c array x = Whole c array x ⊎ Free (sets_of c array) c.tables x

-- The box of the sets records each option of the book with its set, but for those left out. The empty set marks these and the options that the book lacks.
pub record BoxOf (c : Contents) (array record_of : List ℕ) : Type 0 where
  pub left_out : (x : ℕ) → x < length c.sizes → LeftOut c array x → slice_index record_of x ≡ 0
  pub recorded : (x : ℕ) → x < length c.sizes → (LeftOut c array x → ⊥) → slice_index record_of x ≡ sets_of c array x
  pub lacking : (x : ℕ) → length c.sizes ≤ x → slice_index record_of x ≡ 0

-- The values meet the box: they give each recorded option a value from its recorded set.
abbrev pub Meets : List ℕ → List ℕ → Type 0
Meets record_of values = (x : ℕ) → 0 < slice_index record_of x → In (slice_index record_of x) (slice_index values x)
