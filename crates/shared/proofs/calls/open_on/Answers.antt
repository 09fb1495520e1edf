use Rattle.std.proofs.Common.{[], sym, subst, rules}
use Rattle.book.specs.Books.{contents}
use Rattle.sheet.specs.Runs.{Keeps}
use Rattle.sheet.proofs.Keeping.{keeps_new}
use Rattle.shared.proofs.calls.open_on.Goals as goal

pub returns-clause-opened : goal.returns-clause-opened
returns-clause-opened g c =
    let b = contents c.args.book.now in
    record {
      keeps = subst (Keeps b []) (sym c.new.ensures.sets) (keeps_new b);
      dead = λ x h. absurd (search rules);
    }
