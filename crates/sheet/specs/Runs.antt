-- What stands after a list of calls on one sheet, found from the calls' arguments alone.
use Rattle.std.specs.Prelude.{◌≡◌, ℕ, ◌<◌, Bool, true, false, not, ◌&&◌, ◌||◌, List, [], ◌∷◌, length, ◌==◌, nat_lt, slice_index}
use Rattle.grammar.specs.Contents.{Contents}
use Rattle.sheet.specs.declared.decision.Kind.{Kind}
use Rattle.sheet.specs.declared.decision.Kind.TheVariants.{Fix, Bar}
use Rattle.sheet.specs.Decisions.{is_person, stands}
use Rattle.sheet.specs.Starts.{Standing}

-- A call by a person: a decision is made or withdrawn, or the person asks.
pub data Call : Type 0 where
  making : ℕ → Kind → ℕ → ℕ → Call
  withdrawing : ℕ → Kind → ℕ → ℕ → Call
  asking : Call

abbrev pub is_same_kind : Kind → Kind → Bool
is_same_kind Fix Fix = true
is_same_kind Fix Bar = false
is_same_kind Bar Fix = false
is_same_kind Bar Bar = true

-- the same person, kind, option and value
abbrev pub same : ℕ → Kind → ℕ → ℕ → Standing
same q j y w p k x v = p == q && (is_same_kind k j && (x == y && v == w))

-- one of the two people, an option of the book, and one of its values
abbrev pub is_known : Contents → ℕ → ℕ → ℕ → Bool
is_known c person option value = is_person person && (nat_lt option (length c.sizes) && nat_lt value (slice_index c.sizes option))

-- What stands after calls, the last of which comes first. A call with an unknown person, option or value changes nothing.
abbrev pub standing : Contents → List Call → Standing
standing c [] p k x v = false
standing c (making q j y w ∷ calls) p k x v = (is_known c q y w && same q j y w p k x v) || standing c calls p k x v
standing c (withdrawing q j y w ∷ calls) p k x v = not (same q j y w p k x v) && standing c calls p k x v
standing c (asking ∷ calls) p k x v = standing c calls p k x v

-- a sheet keeps just what stands after the calls
abbrev pub Keeps : Contents → List Call → List ℕ → Type 0
Keeps c calls sets = (p : ℕ) (k : Kind) (x v : ℕ) → is_person p ≡ true → x < 24 → stands sets p k x v ≡ standing c calls p k x v
