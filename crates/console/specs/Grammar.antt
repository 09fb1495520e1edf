-- The form of a line: at most 40 bytes, in parts with one blank between two. The first part is a letter, and the
-- others are numbers of one to seven decimal digits: person, option and value, or person and budget.
use Rattle.std.specs.Prelude.{◌≡◌, ℕ, ◌≤◌, ◌+◌, ◌-◌, ◌*◌, Bool, true, cond, ◌&&◌, List, [], ◌∷◌, length, Some, None, Option, ◌==◌, nat_le, slice_index}
use Rattle.console.specs.declared.command.Command.{Command}
use Rattle.console.specs.declared.command.Command.TheVariants.{Fix, Bar, WithdrawFix, WithdrawBar, Ask}

-- a byte in front of the first part
abbrev pub onto : ℕ → List (List ℕ) → List (List ℕ)
onto b [] = (b ∷ []) ∷ []
onto b (p ∷ ps) = (b ∷ p) ∷ ps

-- what stands before, between and behind the blanks
abbrev pub parts : List ℕ → List (List ℕ)
parts [] = [] ∷ []
parts (b ∷ bs) = cond (b == 32) ([] ∷ parts bs) (onto b (parts bs))

-- '0' to '9'
abbrev pub is_digit : ℕ → Bool
is_digit b = nat_le 48 b && nat_le b 57

abbrev pub all_digits : List ℕ → Bool
all_digits [] = true
all_digits (b ∷ bs) = is_digit b && all_digits bs

-- what digits say behind others that say v
abbrev pub worth : ℕ → List ℕ → ℕ
worth v [] = v
worth v (b ∷ bs) = worth (v * 10 + (b - 48)) bs

-- one to seven digits are a number
abbrev pub numeral : List ℕ → Option ℕ
numeral p = cond (nat_le 1 (length p) && nat_le (length p) 7 && all_digits p) (Some (worth 0 p)) None

abbrev pub before : Option ℕ → Option (List ℕ) → Option (List ℕ)
before None ns = None
before (Some n) None = None
before (Some n) (Some ns) = Some (n ∷ ns)

-- parts that are numbers, every one
abbrev pub numerals : List (List ℕ) → Option (List ℕ)
numerals [] = Some []
numerals (p ∷ ps) = before (numeral p) (numerals ps)

-- no line has more than three numbers
abbrev pub up_to_three : Option (List ℕ) → Option (List ℕ)
up_to_three None = None
up_to_three (Some ns) = cond (nat_le (length ns) 3) (Some ns) None

-- 'F' fixes, 'B' bars, 'f' withdraws a fix and 'b' a bar
abbrev pub decided : ℕ → ℕ → ℕ → ℕ → Option Command
decided c person option value =
    cond (c == 70) (Some (Fix person option value))
    (cond (c == 66) (Some (Bar person option value))
    (cond (c == 102) (Some (WithdrawFix person option value))
    (cond (c == 98) (Some (WithdrawBar person option value)) None)))

-- 'A' asks
abbrev pub asked : ℕ → ℕ → ℕ → Option Command
asked c person budget = cond (c == 65) (Some (Ask person budget)) None

-- a letter and its numbers: three for a decision, two for an ask
abbrev pub ordered : ℕ → List ℕ → Option Command
ordered c ns =
    cond (length ns == 3) (decided c (slice_index ns 0) (slice_index ns 1) (slice_index ns 2))
    (cond (length ns == 2) (asked c (slice_index ns 0) (slice_index ns 1)) None)

abbrev pub saying : ℕ → Option (List ℕ) → Option Command
saying c None = None
saying c (Some ns) = ordered c ns

-- a first part of one letter, and numbers
abbrev pub led : List ℕ → List (List ℕ) → Option Command
led [] ps = None
led (c ∷ []) ps = saying c (numerals ps)
led (c ∷ d ∷ ds) ps = None

abbrev pub sentence : List (List ℕ) → Option Command
sentence [] = None
sentence (p ∷ ps) = led p ps

abbrev pub command : List ℕ → Option Command
command line = cond (nat_le (length line) 40) (sentence (parts line)) None

-- at most 40 bytes, the second of them a blank
abbrev pub Opening : List ℕ → Type 0
Opening line = (2 ≤ length line) × (length line ≤ 40) × (slice_index line 1 ≡ 32)
