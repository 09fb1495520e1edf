-- The reply to a command that was obeyed or refused.
use Rattle.std.specs.Borrow.{Bor}
use Rattle.std.specs.Prelude.{ℕ, List, Some, None, Ok, Err, Option, Result}
use Rattle.questions.specs.declared.question.Question.{Question}
use Rattle.ask.specs.declared.kinds.Answer.{Answer}
use Rattle.ask.specs.declared.kinds.Asked.{Asked}
use Rattle.console.specs.declared.reply.Reply.{Reply}

-- an answer with its count; of a fit its values too
abbrev pub reply_of_answer : Answer → ℕ → Bor (List ℕ) → Reply
reply_of_answer Answer.Fit count values = Reply.Fit values count
reply_of_answer Answer.None count values = Reply.None count
reply_of_answer Answer.Stopped count values = Reply.Stop count

abbrev pub reply_of : Result (Option Asked) Question → Bor (List ℕ) → Reply
reply_of (Err question) values = Reply.No question
reply_of (Ok None) values = Reply.Ok
reply_of (Ok (Some a)) values = reply_of_answer a.answer a.count values
