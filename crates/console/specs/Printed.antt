-- Every line that is printed, byte by byte, without its line feed.
use Rattle.std.specs.Prelude.{ℕ, List, [], ◌∷◌, ◌++◌, codes, decimal}
use Rattle.questions.specs.Numbers.{number}
use Rattle.console.specs.declared.reply.Reply.{Reply}
use Rattle.console.specs.declared.reply.Reply.TheVariants.{Ok, No, Fit, None, Stop, Unknown, Book}

-- each value behind a blank
abbrev pub spaced : List ℕ → List ℕ
spaced [] = []
spaced (v ∷ vs) = (codes " " ++ decimal v) ++ spaced vs

abbrev pub fit_line_of : List ℕ → ℕ → List ℕ
fit_line_of values count = codes "fit" ++ (spaced values ++ (codes " in " ++ decimal count))

abbrev pub printed : Reply → List ℕ
printed Ok = codes "ok"
printed (No question) = codes "no " ++ decimal (number question)
printed (Fit values count) = fit_line_of values.now count
printed (None count) = codes "none in " ++ decimal count
printed (Stop count) = codes "stop in " ++ decimal count
printed Unknown = codes "?"
printed (Book question bit) = codes "book " ++ (decimal (number question) ++ (codes " at " ++ decimal bit))
