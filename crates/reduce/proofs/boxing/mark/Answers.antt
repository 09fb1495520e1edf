use Rattle.std.proofs.Common.{◌≡◌, ◌^◌, sym, subst, rules}
use lib.Bits.{bit_or}
use Rattle.std.specs.List.{fold}
use Rattle.reduce.specs.Steps.{Marks}
use Rattle.reduce.proofs.Bindings.{marks_fold}
use Rattle.reduce.proofs.boxing.mark.Goals as goal

pub returns : goal.returns
returns c =
    let scope = c.args.scope.now in
    let e : c.fold.result ≡ fold (λ m x. bit_or m (2 ^ x)) c.args.options scope = search rules in
    subst (Marks c.args.options scope) (sym e) (marks_fold scope c.args.options)
