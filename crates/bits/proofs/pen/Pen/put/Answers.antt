use Rattle.std.proofs.Common.{◌≡◌, ◌+◌, ◌-◌, ◌^◌, ◌<◌, ◌≤◌, subst, arith, pow_mono, rules}
use Rattle.std.proofs.lemmas.Nat.{shl_whole, one_shl, shr_below}
use Rattle.bits.proofs.Inks.{field_more, byte_more, later}
use Rattle.bits.proofs.pen.Pen.put.Goals as goal

pub loop-count-init : goal.loop-count-init
loop-count-init c =
    let p = c.args.self.now in
    let w = c.args.width in
    let seven : p.count ≤ 7 = omega (arith, p.few) in
    let h : p.held < 2 ^ 7 = omega (arith, p.small, pow_mono seven) in
    let s = shl_whole p.held 7 w 64 h (omega arith) in
    simp s (field_more c.args.out.now p.at p.count p.held w c.args.value p.few p.small (omega arith) (omega arith))

pub overflow_cast-out : goal.overflow_cast-out
overflow_cast-out c =
    let k = c.loop-count.count - 8 in
    let held = c.loop-count.held in
    let e : c.loop-count.count ≡ 8 + k = omega arith in
    let b = shr_below held 8 k (subst (λ n. held < 2 ^ n) e c.loop-count.invariant.small) in
    search rules

pub loop-count-preserved : goal.loop-count-preserved
loop-count-preserved c =
    let k = c.loop-count.count - 8 in
    let s = one_shl k 64 (omega arith) in
    simp s (byte_more _ _ _ c.loop-count.out c.loop-count.at c.loop-count.count c.loop-count.held c.loop-count.invariant (omega arith) (omega arith))

pub returns : goal.returns
returns c =
    let inv = c.loop-count.invariant in
    record { ink = inv.is; on = inv.on; rest = λ k h. later _ _ _ k h inv.same }
