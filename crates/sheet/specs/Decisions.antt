-- The decisions that stand on a sheet, and the questions that making and withdrawing one asks.
use Rattle.std.specs.Prelude.{ℕ, ◌+◌, ◌-◌, ◌*◌, ◌^◌, Bool, true, false, cond, not, List, length, Ok, Err, Result, bit_or, bit_xor, nat_le, nat_lt, slice_index, slice_set}
use Rattle.questions.specs.declared.question.Question.{Question}
use Rattle.grammar.specs.Contents.{Contents}
use Rattle.propagate.specs.Support.{is_in}
use Rattle.sheet.specs.declared.decision.Kind.{Kind}
use Rattle.sheet.specs.declared.decision.Kind.TheVariants.{Fix, Bar}

-- A sheet keeps a set of values for each person, kind of decision and option: the set's place.
abbrev pub place_of : ℕ → Kind → ℕ → ℕ
place_of person Fix option = 48 * (person - 1) + option
place_of person Bar option = 48 * (person - 1) + 24 + option

-- whether the person's decision of this kind on this value of the option stands
abbrev pub stands : List ℕ → ℕ → Kind → ℕ → ℕ → Bool
stands sets person kind option value = is_in (slice_index sets (place_of person kind option)) value

abbrev pub ask : Bool → Question → Result (Unit {0}) Question → Result (Unit {0}) Question
ask true q r = r
ask false q r = Err q

-- a person is 1 or 2
abbrev pub is_person : ℕ → Bool
is_person person = cond (nat_le 1 person) (nat_le person 2) false

-- what both calls ask first
abbrev pub known : Contents → ℕ → ℕ → ℕ → Result (Unit {0}) Question → Result (Unit {0}) Question
known c person option value r =
    ask (is_person person) Question.Person
    (ask (nat_lt option (length c.sizes)) Question.OptionKnown
    (ask (nat_lt value (slice_index c.sizes option)) Question.ValueKnown
    r))

-- A decision is made when it does not stand yet, and withdrawn when it stands.
abbrev pub makes : Contents → List ℕ → ℕ → Kind → ℕ → ℕ → Result (Unit {0}) Question
makes c sets person kind option value = known c person option value (ask (not (stands sets person kind option value)) Question.NotStanding (Ok tt))

abbrev pub withdraws : Contents → List ℕ → ℕ → Kind → ℕ → ℕ → Result (Unit {0}) Question
withdraws c sets person kind option value = known c person option value (ask (stands sets person kind option value) Question.Standing (Ok tt))

-- what a sheet then keeps: one pair more, or one less; a refusal alters nothing
abbrev pub made : Result (Unit {0}) Question → List ℕ → ℕ → Kind → ℕ → ℕ → List ℕ
made (Ok u) sets person kind option value = slice_set sets (place_of person kind option) (bit_or (slice_index sets (place_of person kind option)) (2 ^ value))
made (Err q) sets person kind option value = sets

abbrev pub withdrawn : Result (Unit {0}) Question → List ℕ → ℕ → Kind → ℕ → ℕ → List ℕ
withdrawn (Ok u) sets person kind option value = slice_set sets (place_of person kind option) (bit_xor (slice_index sets (place_of person kind option)) (2 ^ value))
withdrawn (Err q) sets person kind option value = sets
