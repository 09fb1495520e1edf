use Rattle.std.proofs.Common.{◌≡◌, ◌<◌, length, take, ap, subst, arith, get_or-take}
use Rattle.std.proofs.lemmas.List.{length-take-le}
use Rattle.values.specs.Members.{Lowest}
use Rattle.ask.proofs.Writings.{writing_more}
use Rattle.ask.proofs.fits.write_fit.Goals as goal

pub loop-x-preserved : goal.loop-x-preserved
loop-x-preserved c =
    let x = c.loop-x.x in
    let array = c.args.sets.now in
    let k = length c.sizes-options.result.now in
    let n = ap length c.sizes-options.ensures.value in
    let cut : length (take k array) ≡ k = length-take-le k array (omega (arith, c.sizes-options.ensures.few, c.told-sets)) in
    let here : x < k = omega (arith, c.loop-x-test.true, cut) in
    let low = subst (λ s. Lowest s c.lowest.result) (get_or-take k array x 0 here) c.lowest.ensures in
    writing_more array c.args.fit.now x c.loop-x.fit c.lowest.result c.loop-x.invariant (omega (arith, here, c.requires.room, c.loop-x.auto.fit, n)) (c.requires.one x (omega (arith, here, n))) low
