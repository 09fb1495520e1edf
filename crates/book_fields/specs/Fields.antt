-- The question that is asked of each field's value, and how a field lies in the file.
use Rattle.std.specs.Prelude.{ℕ, ◌-◌, ◌%◌, Some, None, Option}
use Rattle.questions.specs.declared.question.Question.{Question}
use Rattle.book_fields.specs.declared.field.Field.{Field}

abbrev pub asked : Field → Question
asked Field.Whole = Question.FileLength
asked Field.Edition = Question.Edition
asked Field.Options = Question.Counts
asked Field.Tables = Question.Counts
asked (Field.Size i) = Question.OptionShape
asked (Field.NameLength i) = Question.OptionShape
asked (Field.Kind t) = Question.Kind
asked (Field.ScopeLength t) = Question.Scope
asked (Field.ScopeOption t j) = Question.Scope
asked (Field.RowCount t) = Question.RowCount
asked (Field.Value t r j) = Question.RowValue
asked (Field.Row t r) = Question.RowValue
asked Field.Filling = Question.Tail
asked (Field.NameByte k) = Question.Tail
asked Field.End = Question.Tail

-- how many bits a field has that begins at a bit, and what is added to their number; the end has none
abbrev pub layout : Field → ℕ → Option (ℕ × ℕ)
layout Field.Whole at = Some (0, 0)
layout Field.Edition at = Some (8, 0)
layout Field.Options at = Some (5, 0)
layout Field.Tables at = Some (6, 0)
layout (Field.Size i) at = Some (5, 1)
layout (Field.NameLength i) at = Some (5, 0)
layout (Field.Kind t) at = Some (1, 0)
layout (Field.ScopeLength t) at = Some (2, 1)
layout (Field.ScopeOption t j) at = Some (5, 0)
layout (Field.RowCount t) at = Some (11, 0)
layout (Field.Value t r j) at = Some (5, 0)
layout (Field.Row t r) at = Some (0, 0)
layout Field.Filling at = Some ((8 - at % 8) % 8, 0)
layout (Field.NameByte k) at = Some (8, 0)
layout Field.End at = None
