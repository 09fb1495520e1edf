-- A draft as a source of fields.
use Rattle.std.specs.Prelude.{ℕ, ◌+◌, ◌-◌, ◌^◌, min, cond, List, [], length, Some, None, Ok, Option, Result, nat_lt, slice_index, slice_index_or}
use Rattle.questions.specs.declared.question.Question.{Question}
use Rattle.book_fields.specs.declared.field.Field.{Field}
use Rattle.book_fields.specs.declared.field.Fault.{Fault}
use Rattle.book_fields.specs.Fields.{layout}
use Rattle.book_source.specs.Readings.{Source, refuse}
use Rattle.draft.specs.declared.draft.Draft.{Draft}

-- what stands at a place of a slice, if the slice has the place
abbrev pub listed : List ℕ → ℕ → Option ℕ
listed xs i = cond (nat_lt i (length xs)) (Some (slice_index xs i)) None

abbrev pub listed_at : List (List ℕ) → ℕ → ℕ → Option ℕ
listed_at rows i j = cond (nat_lt i (length rows)) (listed (slice_index_or rows i []) j) None

-- what a draft has in its slices for a field; what a draft does not hold is as every book has it
abbrev pub held : Draft → Field → Option ℕ
held d Field.Whole = Some 0
held d Field.Edition = Some 1
held d Field.Options = Some d.options
held d Field.Tables = Some d.tables
held d (Field.Size i) = listed d.sizes.now i
held d (Field.NameLength i) = listed d.lengths.now i
held d (Field.Kind t) = Some 0
held d (Field.ScopeLength t) = listed d.arities.now t
held d (Field.ScopeOption t j) = listed_at d.scopes.now t j
held d (Field.RowCount t) = listed d.counts.now t
held d (Field.Value t r j) = listed_at d.rows.now r j
held d (Field.Row t r) = Some 0
held d Field.Filling = Some 0
held d (Field.NameByte k) = listed d.letters.now k
held d Field.End = Some 0

-- the bit behind a field laid out so, as far as bits are counted
abbrev pub moved : Option (ℕ × ℕ) → ℕ → ℕ
moved None at = at
moved (Some l) at = min (at + l.0) (2 ^ 64 - 1)

-- a field beyond its slice is refused
abbrev pub answer : Option ℕ → Field → ℕ → Result (ℕ × ℕ) Fault
answer None f at = refuse Question.FieldInside at f
answer (Some v) f at = Ok (v, moved (layout f at) at)

abbrev pub in_draft : Draft → Source
in_draft d f at = answer (held d f) f at
