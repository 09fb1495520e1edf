-- The lines of a conversation: what each that is read asks for, and every byte of each that is printed.
use Rattle.std.specs.Prelude.{◌≡◌, [], ◌∷◌, Some, codes}
use Rattle.questions.specs.declared.question.Question.TheVariants.{Person, Standing}
use Rattle.console.specs.declared.command.Command.TheVariants.{Fix, Bar, WithdrawFix, Ask}
use Rattle.console.specs.declared.reply.Reply.TheVariants.{Ok, No, None, Stop}
use Rattle.console.specs.Grammar.{command}
use Rattle.console.specs.Printed.{printed, fit_line_of}

abbrev pub Reads : Type 0
Reads =
    (command (codes "A 1 100") ≡ Some (Ask 1 100)) × (command (codes "F 2 0 2") ≡ Some (Fix 2 0 2))
    × (command (codes "B 1 2 1") ≡ Some (Bar 1 2 1)) × (command (codes "A 2 100") ≡ Some (Ask 2 100))
    × (command (codes "f 1 0 2") ≡ Some (WithdrawFix 1 0 2)) × (command (codes "f 2 0 2") ≡ Some (WithdrawFix 2 0 2))
    × (command (codes "A 2 1") ≡ Some (Ask 2 1)) × (command (codes "A 2 2") ≡ Some (Ask 2 2))
    × (command (codes "F 3 0 0") ≡ Some (Fix 3 0 0))

abbrev pub Prints : Type 0
Prints =
    (fit_line_of (0 ∷ 0 ∷ 0 ∷ []) 4 ≡ codes "fit 0 0 0 in 4") × (printed Ok ≡ codes "ok")
    × (fit_line_of (2 ∷ 1 ∷ 1 ∷ []) 1 ≡ codes "fit 2 1 1 in 1") × (printed (None 1) ≡ codes "none in 1")
    × (printed (No Standing) ≡ codes "no 16") × (printed (Stop 1) ≡ codes "stop in 1")
    × (fit_line_of (0 ∷ 0 ∷ 0 ∷ []) 2 ≡ codes "fit 0 0 0 in 2") × (printed (No Person) ≡ codes "no 12")
