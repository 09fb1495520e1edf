use Rattle.std.proofs.Common.{sym, subst, rules}
use Rattle.std.proofs.lemmas.Bool.Decides.{Decides-like, Decides-eqb}
use Rattle.values.specs.Members.{In}
use Rattle.values.proofs.Digits.{full_in, full_if}
use Rattle.reduce.proofs.boxing.whole.Goals as goal

pub returns : goal.returns
returns c =
    let n = c.args.size in
    Decides-like _
    (λ e v l. subst (λ s. In s v) (sym e) (full_in n v l)) (full_if n c.args.set c.requires.below) (search (rules, Decides-eqb))
