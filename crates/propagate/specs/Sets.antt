-- Value sets give each option a set of its values.
use Rattle.std.specs.Prelude.{ℕ, ◌%◌, ◌^◌, List, slice_index}
use Rattle.values.specs.Members.{In}
use Rattle.grammar.specs.Contents.{Contents}

-- value sets: the set of each option
abbrev pub Sets : Type 0
Sets = ℕ → ℕ

-- each value of the first sets is one of the second
abbrev pub Inside : Sets → Sets → Type 0
Inside a b = (x v : ℕ) → In (a x) v → In (b x) v

-- an array of sets as it stands
abbrev pub placed : List ℕ → Sets
placed array x = slice_index array x

-- What an array of sets gives the options of a book. The place of an option that the book lacks counts for nothing, and so does a value that an option lacks.
abbrev pub sets_of : Contents → List ℕ → Sets
sets_of c array x = slice_index array x % 2 ^ slice_index c.sizes x
