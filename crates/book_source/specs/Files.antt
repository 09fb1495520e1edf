-- The file as a source of fields.
use Rattle.std.specs.Prelude.{ℕ, ◌+◌, ◌-◌, ◌*◌, List, length, Some, None, Ok, Option, Result}
use Rattle.bits.specs.Bits.{field}
use Rattle.questions.specs.declared.question.Question.{Question}
use Rattle.book_fields.specs.declared.field.Field.{Field}
use Rattle.book_fields.specs.declared.field.Fault.{Fault}
use Rattle.book_fields.specs.Fields.{layout}
use Rattle.book_source.specs.Readings.{Source, refuse}

-- the number in a field's bits, if it ends inside the file
abbrev pub spelled : Option ℕ → Field → ℕ → ℕ × ℕ → Result (ℕ × ℕ) Fault
spelled None f at l = refuse Question.FieldInside at f
spelled (Some v) f at l = Ok (v + l.1, at + l.0)

-- what a file says at a field laid out so; at the end, how many bits are left
abbrev pub says : List ℕ → Field → ℕ → Option (ℕ × ℕ) → Result (ℕ × ℕ) Fault
says file f at None = Ok (8 * length file - at, at)
says file f at (Some l) = spelled (field file at l.0) f at l

abbrev pub in_file : List ℕ → Source
in_file file f at = says file f at (layout f at)
