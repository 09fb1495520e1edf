use Rattle.std.proofs.Common.{length, take, refl, ap}
use Rattle.std.proofs.lemmas.Bool.Decides.{Decides-like}
use Rattle.book.specs.Books.{contents}
use Rattle.book.proofs.Sizes.{valid}
use Rattle.sheet.specs.Decisions.{stands}
use Rattle.order.proofs.OneEach.{issues_if, if_issues}
use Rattle.order.proofs.issuing.fits.Goals as goal

pub returns : goal.returns
returns c =
    let b = c.args.book.now in
    let slice = c.args.values.now in
    let decided = stands c.args.sheet.now.sets in
    let start = c.starting_sets-start in
    let cut = ap (λ s. take (length s) slice) c.sizes.ensures.value in
    let inside = c.if-not-inside.ensures.0 refl in
    Decides-like c.all_universal.result
    (issues_if (contents b) (valid b) decided start.result.sets start.ensures slice c.requires _ cut inside c.singles.result.sets c.singles.ensures)
    (if_issues (contents b) (valid b) decided start.result.sets start.ensures slice c.requires _ cut inside c.singles.result.sets c.singles.ensures)
    c.all_universal.ensures
