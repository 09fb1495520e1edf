-- What propagation means for the fits of a book.
use Rattle.std.specs.Prelude.{◌≡◌, ℕ, ◌^◌, ◌<◌, List, length, slice_index}
use Rattle.grammar.specs.Contents.{Contents, Fit, Valid}
use Rattle.values.specs.Members.{In}
use Rattle.propagate.specs.Sets.{Sets, sets_of}
use Rattle.propagate.specs.Support.{Closed}
use Rattle.propagate.specs.Propagation.{Largest, LeavesNone, Ends}
use Rattle.propagate.specs.declared.outcome.Outcome.{Outcome}
use Rattle.propagate.specs.declared.outcome.Outcome.TheVariants.{Narrowed}

-- the values lie inside the sets of the array: each option is given a value of its set
abbrev pub Within : Contents → List ℕ → List ℕ → Type 0
Within c array values = (x : ℕ) → x < length c.sizes → In (sets_of c array x) (slice_index values x)

-- Propagation loses no fit: where a fit lies inside the start, it is not emptied, and the fit lies inside the sets at the end.
abbrev pub LosesNoFit : Type 0
LosesNoFit =
    (c : Contents) → Valid c → (start end : List ℕ) (outcome : Outcome) → Ends c start outcome end
    → (values : List ℕ) → Fit c values → Within c start values → (outcome ≡ Narrowed) × Within c end values

-- Propagation ends in one way only.
abbrev pub EndsOneWay : Type 0
EndsOneWay =
    (c : Contents) (start a b : List ℕ) (o p : Outcome) → length a ≡ length b → Ends c start o a → Ends c start p b → (o ≡ p) × (a ≡ b)

-- It is emptied exactly where one of the largest sets is empty.
abbrev pub EmptiedWhereEmpty : Type 0
EmptiedWhereEmpty =
    (c : Contents) (start end : Sets) → Largest c start end
    → (LeavesNone c start → (x : ℕ) × (x < length c.sizes) × (end x ≡ 0)) × (((x : ℕ) × (x < length c.sizes) × (end x ≡ 0)) → LeavesNone c start)

-- Where every value has support and each option has one value, these values are a fit.
abbrev pub SingleSetsFit : Type 0
SingleSetsFit =
    (c : Contents) → Valid c → (array values : List ℕ) → length values ≡ length c.sizes
    → ((x : ℕ) → x < length c.sizes → sets_of c array x ≡ 2 ^ slice_index values x)
    → Closed c.tables (sets_of c array) → Fit c values
