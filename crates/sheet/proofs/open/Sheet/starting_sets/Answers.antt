use Rattle.std.proofs.Common.{◌<◌, ◌≢◌, length, get_or, set, sym, ◌∙◌, subst, arith, length-set, get_or-set_other, get_or-set_same, below_more}
use Rattle.values.specs.Members.{In}
use Rattle.sheet.specs.Decisions.{stands}
use Rattle.sheet.specs.Starts.{Leaves}
use Rattle.sheet.proofs.Unions.{spared_leaves, left_spares}
use Rattle.sheet.proofs.open.Sheet.starting_sets.Goals as goal

pub loop-x-preserved : goal.loop-x-preserved
loop-x-preserved c =
    let inv = c.loop-x.invariant in
    let sets = c.loop-x.sets in
    let x = c.loop-x.x in
    let s = c.start.result in
    let sizes = c.sizes-sizes.result.now in
    let decided = stands c.args.self.now.sets in
    let fixed = c.by_any.ensures in
    let barred = c.by_any-in-loop-x.ensures in
    let lt : x < length sets = omega (arith, inv.0, c.sizes-sizes.ensures.few) in
    let here = get_or-set_same sets x s 0 lt in (
      length-set sets x s ∙ inv.0,
      λ k v. (below_more (λ k. In (get_or (set sets x s) k 0) v → (v < get_or sizes k 0) × Leaves decided k v) x
          (λ k h i. let ne : k ≢ x = omega arith in inv.1 k v h (rw get_or-set_other at i))
          (λ i. let l = c.start.ensures.sound v (subst (λ n. In n v) here i) in (l.0, spared_leaves decided x _ _ fixed.whole barred.whole v l.1)) k),
      λ k v. (below_more (λ k. v < get_or sizes k 0 → Leaves decided k v → In (get_or (set sets x s) k 0) v) x
          (λ k h l p. let ne : k ≢ x = omega arith in rw get_or-set_other (inv.2 k v h l p))
          (λ l p. subst (λ n. In n v) (sym here) (c.start.ensures.whole v l (left_spares decided x _ _ fixed.sound barred.sound v p))) k),
      λ k h. let ne : k ≢ x = omega arith in rw get_or-set_other (inv.3 k (omega arith)),
    )
