-- The key of a box: a number of 32 bits, found from its sets.
use Rattle.std.specs.Prelude.{ℕ, ◌*◌, ◌/◌, ◌%◌, ◌^◌, List, [], ◌∷◌, bit_or, bit_xor}

-- 32 bits rotated to the left by five: all move up, and the upper five, cut off there, come round to the bottom
abbrev pub rotated : ℕ → ℕ
rotated k = bit_or (k * 2 ^ 5 % 2 ^ 32) (k / 2 ^ 27)

-- the key so far, rotated, and then a set by exclusive or
abbrev pub combined : ℕ → ℕ → ℕ
combined k set = bit_xor (rotated k) set

-- one set after another
abbrev pub key_from : ℕ → List ℕ → ℕ
key_from k [] = k
key_from k (set ∷ sets) = key_from (combined k set) sets

abbrev pub key : List ℕ → ℕ
key sets = key_from 0 sets
