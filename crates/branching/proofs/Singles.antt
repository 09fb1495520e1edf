-- Sets of one value, and sets that lose one.
use Rattle.std.proofs.Common.{◌≡◌, ℕ, ◌+◌, ◌-◌, ◌*◌, ◌/◌, ◌%◌, ◌^◌, ◌<◌, sym, refl, ap, ◌∙◌, subst, mod-lt, add-mul, div-add-mod', arith}
use lib.Bits.{bit_and, bit_xor, xor_add_and}
use lib.Count.{ones, ones_cat, ones_step}
use Rattle.std.proofs.lemmas.Nat.{pow_pos}
use Rattle.values.specs.Members.{In, Without}
use Rattle.values.proofs.Digits.{in_zero, ones_zero, in_both, in_and, in_one_only, out_in, in_out, same_from_values}
use Rattle.trail.proofs.Fewer.{fewer}

-- a set that is not empty has a value
pub some_value : (s : ℕ) → 0 < s → 0 < ones s
some_value s p = omega (arith, ones_zero, fewer 0 s (λ v i. absurd (in_zero v i)) (λ e. omega arith))

pub one_value : (s : ℕ) → 0 < s → ones s < 2 → ones s ≡ 1
one_value s p h = omega (arith, some_value s p)

-- a set of one value, and a set that loses one
one_and_none : ones 1 + ones 0 ≡ 1
unfolding ones
one_and_none = refl

pub ones_of_one : (v : ℕ) → ones (2 ^ v) ≡ 1
ones_of_one v = let e : 1 * 2 ^ v + 0 ≡ 2 ^ v = omega arith in sym (ap ones e) ∙ ones_cat v 1 0 (pow_pos v) ∙ one_and_none

pub ones_less : (s v : ℕ) → In s v → ones (s - 2 ^ v) < ones s
ones_less s v i =
    let h = s / 2 ^ v in
    let r = s % 2 ^ v in
    let low : r < 2 ^ v = mod-lt s (pow_pos v) in
    let whole : h * 2 ^ v + r ≡ s = div-add-mod' s (2 ^ v) in
    let h-is : h - 1 + 1 ≡ h = omega (arith, i) in
    let parts : (h - 1) * 2 ^ v + 1 * 2 ^ v ≡ h * 2 ^ v = sym (add-mul (h - 1) 1 (2 ^ v)) ∙ ap (λ n. n * 2 ^ v) h-is in
    let rest : (h - 1) * 2 ^ v + r ≡ s - 2 ^ v = omega (arith, whole, parts) in
    let half : (h - 1) / 2 ≡ h / 2 = omega (arith, i) in
    omega (arith, sym (ap ones whole) ∙ ones_cat v h r low, sym (ap ones rest) ∙ ones_cat v (h - 1) r low, ones_step h, ones_step (h - 1), ap ones half, i)

-- a set without a value that it has
pub without_is : (s v r : ℕ) → In s v → Without s v r → r ≡ s - 2 ^ v
without_is s v r h w =
    let one : bit_and s (2 ^ v) ≡ 2 ^ v = same_from_values (bit_and s (2 ^ v)) (2 ^ v) (λ u i. (in_both s (2 ^ v) u i).1) (λ u i. in_and s (2 ^ v) u (subst (In s) (sym (in_one_only v u i)) h) i) in
    let less : bit_xor s (2 ^ v) ≡ s - 2 ^ v = omega (arith, one, xor_add_and s (2 ^ v)) in
    same_from_values r (bit_xor s (2 ^ v)) (λ u i. in_out s v u (w.taken u i).0 (w.taken u i).1) (λ u i. let o = out_in s v u h i in w.kept u o.0 o.1) ∙ less
