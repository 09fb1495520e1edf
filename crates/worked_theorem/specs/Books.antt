-- The books and the sets of values of the worked cases. A set is a number, in which value v is worth 2 ^ v.
use Rattle.std.specs.Prelude.{ℕ, ◌-◌, List, [], ◌∷◌, ◌++◌, length, replicate, codes}
use Rattle.grammar.specs.Contents.{Table, Contents, Valid}

-- An array of 24 sets: those of the options of a book, and empty ones at the places of options that it lacks.
abbrev pub array_of : List ℕ → List ℕ
array_of sets = sets ++ replicate (24 - length sets) 0

-- a table on two options
abbrev pub pair : ℕ → ℕ → List (List ℕ) → Table
pair x y rows = record { scope = x ∷ y ∷ []; rows = rows }

-- a row of two values
abbrev pub two : ℕ → ℕ → List ℕ
two v w = v ∷ w ∷ []

-- The sample book: a gate with three values, a divider and a stand with two each.
abbrev pub sample : Contents
sample = record {
  sizes = 3 ∷ 2 ∷ 2 ∷ [];
  names = codes "gate" ∷ codes "divider" ∷ codes "stand" ∷ [];
  tables = pair 0 1 (two 0 0 ∷ two 1 0 ∷ two 1 1 ∷ two 2 1 ∷ []) ∷ pair 1 2 (two 0 0 ∷ two 0 1 ∷ two 1 1 ∷ []) ∷ [];
}

-- Three options with two values each, any two of which have to differ. So it has no fit.
abbrev pub clash : Contents
clash = record {
  sizes = 2 ∷ 2 ∷ 2 ∷ [];
  names = codes "left" ∷ codes "middle" ∷ codes "right" ∷ [];
  tables = pair 0 1 (two 0 1 ∷ two 1 0 ∷ []) ∷ pair 0 2 (two 0 1 ∷ two 1 0 ∷ []) ∷ pair 1 2 (two 0 1 ∷ two 1 0 ∷ []) ∷ [];
}

-- the rows of two different values below four
abbrev pub differing : List (List ℕ)
differing =
    two 0 1 ∷ two 0 2 ∷ two 0 3 ∷ two 1 0 ∷ two 1 2 ∷ two 1 3
    ∷ two 2 0 ∷ two 2 1 ∷ two 2 3 ∷ two 3 0 ∷ two 3 1 ∷ two 3 2 ∷ []

-- Five options with four values each, any two of which have to differ.
abbrev pub five : Contents
five = record {
  sizes = 4 ∷ 4 ∷ 4 ∷ 4 ∷ 4 ∷ [];
  names = codes "a" ∷ codes "b" ∷ codes "c" ∷ codes "d" ∷ codes "e" ∷ [];
  tables =
      pair 0 1 differing ∷ pair 0 2 differing ∷ pair 0 3 differing ∷ pair 0 4 differing ∷ pair 1 2 differing
      ∷ pair 1 3 differing ∷ pair 1 4 differing ∷ pair 2 3 differing ∷ pair 2 4 differing ∷ pair 3 4 differing ∷ [];
}

-- One option with two values, and a table that lists neither.
abbrev pub rowless : Contents
rowless = record { sizes = 2 ∷ []; names = codes "lamp" ∷ []; tables = record { scope = 0 ∷ []; rows = [] } ∷ [] }

-- what holds of every book holds of these
pub record AreBooks : Type 0 where
  pub of_sample : Valid sample
  pub of_clash : Valid clash
  pub of_five : Valid five
  pub of_rowless : Valid rowless
