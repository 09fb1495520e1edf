use Rattle.std.proofs.Common.{◌≡◌, ◌∙◌, rules}
use Rattle.std.specs.List.{fold}
use Rattle.store.specs.Key.{combined}
use Rattle.store.proofs.Combining.{key_from_fold}
use Rattle.store.proofs.keys.key_of.Goals as goal

pub returns : goal.returns
returns c =
    let sets = c.args.found.now.sets in
    let e : c.fold.result ≡ fold combined 0 sets = search rules in
    e ∙ key_from_fold sets 0
