-- What a byte behind the letter is.
use Rattle.std.specs.Prelude.{◌≡◌, ℕ, ◌<◌, ◌≤◌}
use Rattle.console.specs.declared.role.Role.{Role}
use Rattle.console.specs.declared.role.Role.TheVariants.{Digit, Blank, Wrong}

-- a digit of a number that has fewer than seven
abbrev pub MoreDigit : ℕ → ℕ → Type 0
MoreDigit byte digits = (48 ≤ byte) × (byte ≤ 57) × (digits < 7)

-- a blank behind a number that is not the third
abbrev pub EndBlank : ℕ → ℕ → ℕ → Type 0
EndBlank byte digits count = (byte ≡ 32) × (0 < digits) × (count < 2)

abbrev pub Fitting : ℕ → ℕ → ℕ → Role → Type 0
Fitting byte digits count Digit = MoreDigit byte digits
Fitting byte digits count Blank = EndBlank byte digits count
Fitting byte digits count Wrong = (MoreDigit byte digits → ⊥) × (EndBlank byte digits count → ⊥)
