-- A line as it is written: a letter, and numbers of one to seven digits, each behind one blank.
use Rattle.std.specs.Prelude.{◌≡◌, ℕ, List, [], ◌∷◌, ◌++◌, Some}
use Rattle.console.specs.declared.command.Command.{Command}
use Rattle.console.specs.declared.command.Command.TheVariants.{Fix, Bar, WithdrawFix, WithdrawBar, Ask}
use Rattle.console.specs.Grammar.{numeral}

abbrev pub behind_blanks : List (List ℕ) → List ℕ
behind_blanks [] = []
behind_blanks (p ∷ ps) = 32 ∷ (p ++ behind_blanks ps)

-- a letter and three numbers
pub record WithThree (letter : ℕ) (line : List ℕ) (a b d : ℕ) : Type 0 where
  pub first : List ℕ
  pub second : List ℕ
  pub third : List ℕ
  pub first_says : numeral first ≡ Some a
  pub second_says : numeral second ≡ Some b
  pub third_says : numeral third ≡ Some d
  pub line_is : line ≡ letter ∷ behind_blanks (first ∷ second ∷ third ∷ [])

-- a letter and two numbers
pub record WithTwo (letter : ℕ) (line : List ℕ) (a b : ℕ) : Type 0 where
  pub first : List ℕ
  pub second : List ℕ
  pub first_says : numeral first ≡ Some a
  pub second_says : numeral second ≡ Some b
  pub line_is : line ≡ letter ∷ behind_blanks (first ∷ second ∷ [])

-- a line says a command: 'F' fixes, 'B' bars, 'f' withdraws a fix and 'b' a bar, 'A' asks
abbrev pub Says : List ℕ → Command → Type 0
Says line (Fix person option value) = WithThree 70 line person option value
Says line (Bar person option value) = WithThree 66 line person option value
Says line (WithdrawFix person option value) = WithThree 102 line person option value
Says line (WithdrawBar person option value) = WithThree 98 line person option value
Says line (Ask person budget) = WithTwo 65 line person budget
