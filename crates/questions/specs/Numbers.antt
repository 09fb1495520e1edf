-- The number by which each question is told.
use Rattle.std.specs.Prelude.{ℕ}
use Rattle.questions.specs.declared.question.Question.{Question}
use Rattle.questions.specs.declared.question.Question.TheVariants.{FileLength, FieldInside, Edition, Counts, OptionShape, Kind, Scope, RowCount, RowValue, Tail, Room, Person, OptionKnown, ValueKnown, NotStanding, Standing, Slots, Budget, WorkRoom, FitRoom, Fit}

abbrev pub number : Question → ℕ
number FileLength = 1
number FieldInside = 2
number Edition = 3
number Counts = 4
number OptionShape = 5
number Kind = 6
number Scope = 7
number RowCount = 8
number RowValue = 9
number Tail = 10
number Room = 11
number Person = 12
number OptionKnown = 13
number ValueKnown = 14
number NotStanding = 15
number Standing = 16
number Slots = 17
number Budget = 18
number WorkRoom = 19
number FitRoom = 20
number Fit = 21
