-- The bits of a file, the most significant first, and the numbers that they make.
use Rattle.std.specs.Prelude.{ℕ, zero, suc, ◌+◌, ◌*◌, ◌/◌, ◌%◌, ◌^◌, cond, List, [], ◌∷◌, ◌++◌, length, take, drop, Some, None, Option, nat_le}

-- the w low bits of v
abbrev pub spell : ℕ → ℕ → List ℕ
spell zero v = []
spell (suc w) v = v / 2 ^ w % 2 ∷ spell w v

-- the number that bits make
abbrev pub number : List ℕ → ℕ
number [] = 0
number (b ∷ bs) = b * 2 ^ length bs + number bs

-- the bits of a file
unfoldable pub bits : List ℕ → List ℕ
bits [] = []
bits (b ∷ bs) = spell 8 b ++ bits bs

-- the number in the w bits from a bit on
abbrev pub value : List ℕ → ℕ → ℕ → ℕ
value file at w = number (take w (drop at (bits file)))

-- the field of w bits from a bit on, if it ends inside the file
abbrev pub field : List ℕ → ℕ → ℕ → Option ℕ
field file at w = cond (nat_le (at + w) (8 * length file)) (Some (value file at w)) None

-- where a cursor stands after it
abbrev pub after : Option ℕ → ℕ → ℕ → ℕ
after None at w = at
after (Some v) at w = at + w
