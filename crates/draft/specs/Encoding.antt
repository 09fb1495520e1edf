-- The bytes of a book file: the bits of its fields, one behind another.
use Rattle.std.specs.Prelude.{ℕ, ◌+◌, ◌-◌, ◌^◌, ◌<◌, ◌≤◌, List, [], ◌∷◌, ◌++◌, length, Some, None, Option}
use Rattle.bits.specs.Bits.{spell}
use Rattle.bits.specs.Bytes.{packed}
use Rattle.grammar.specs.Contents.{Contents}
use Rattle.book_fields.specs.Fields.{layout}
use Rattle.draft.specs.Entries.{Entry, fields}

-- a value in a field laid out so: what the reader adds is taken away
abbrev pub in_bits : ℕ → Option (ℕ × ℕ) → List ℕ
in_bits v None = []
in_bits v (Some l) = spell l.0 (v - l.1)

-- the bits of a field that begins at a bit
abbrev pub code : Entry → ℕ → List ℕ
code e at = in_bits e.1 (layout e.0 at)

-- the bits of fields, the first of which begins at a bit, and each of the others where the one before it ends
unfoldable pub spelt : ℕ → List Entry → List ℕ
spelt at [] = []
spelt at (e ∷ es) = code e at ++ spelt (at + length (code e at)) es

-- a value that its field has bits for, wherever it begins
abbrev pub FitsIn : ℕ → Option (ℕ × ℕ) → Type 0
FitsIn v None = ⊥
FitsIn v (Some l) = (l.1 ≤ v) × (v - l.1 < 2 ^ l.0)

abbrev pub Fit : Entry → Type 0
Fit e = (at : ℕ) → FitsIn e.1 (layout e.0 at)

abbrev pub encode : Contents → List ℕ
encode c = packed (spelt 0 (fields c))
