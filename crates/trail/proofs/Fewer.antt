-- A set inside another, and not the same, has fewer values.
use Rattle.std.proofs.Common.{◌≡◌, ℕ, zero, suc, ◌+◌, ◌/◌, ◌%◌, ◌^◌, ◌<◌, ◌≤◌, sym, ap, ◌∙◌, inl, inr, pow-suc, pow_mono, arith}
use lib.Count.{ones, ones_step}
use Rattle.std.proofs.lemmas.Bool.{cases_eq}
use Rattle.values.specs.Members.{In}
use Rattle.values.proofs.Digits.{in_suc, in_half, lt_pow, ones_zero}

-- the lowest digit
low : (s : ℕ) → s % 2 ≡ 1 → In s 0
low s e = let one : s / 2 ^ 0 ≡ s = omega arith in ap (λ n. n % 2) one ∙ e

low_of : (s : ℕ) → In s 0 → s % 2 ≡ 1
low_of s e = let one : s / 2 ^ 0 ≡ s = omega arith in sym (ap (λ n. n % 2) one) ∙ e

low_digit : (a b : ℕ) → ((v : ℕ) → In a v → In b v) → a % 2 ≤ b % 2
low_digit a b h = elim (cases_eq (a % 2) 1) [ inl e ↦ omega (arith, low_of b (h 0 (low a e))) | inr d ↦ omega arith ]

halves : (a b : ℕ) → ((v : ℕ) → In a v → In b v) → (v : ℕ) → In (a / 2) v → In (b / 2) v
halves a b h v i = in_half b v (h (suc v) (in_suc a v i))

pub no_more : (k a b : ℕ) → a < 2 ^ k → ((v : ℕ) → In a v → In b v) → ones a ≤ ones b
no_more zero a b l h = let e : a ≡ 0 = omega arith in omega (arith, ap ones e, ones_zero)
no_more (suc k) a b l h = omega (arith, ones_step a, ones_step b, low_digit a b h, no_more k (a / 2) (b / 2) (omega (arith, pow-suc 2 k)) (halves a b h))

fewer_below : (k a b : ℕ) → a < 2 ^ k → b < 2 ^ k → ((v : ℕ) → In a v → In b v) → (a ≡ b → ⊥) → ones a < ones b
fewer_below zero a b l m h d = absurd (d (omega arith))
fewer_below (suc k) a b l m h d =
    let la : a / 2 < 2 ^ k = omega (arith, pow-suc 2 k) in
    let lb : b / 2 < 2 ^ k = omega (arith, pow-suc 2 k) in
    elim (cases_eq (a / 2) (b / 2)) [
      | inl e ↦ omega (arith, ones_step a, ones_step b, ap ones e, low_digit a b h, d)
      | inr f ↦ omega (arith, ones_step a, ones_step b, low_digit a b h, fewer_below k (a / 2) (b / 2) la lb (halves a b h) f)
    ]

pub fewer : (a b : ℕ) → ((v : ℕ) → In a v → In b v) → (a ≡ b → ⊥) → ones a < ones b
fewer a b =
    let most : 2 ^ a ≤ 2 ^ (a + b) = pow_mono (omega arith) in
    let most' : 2 ^ b ≤ 2 ^ (a + b) = pow_mono (omega arith) in
    fewer_below (a + b) a b (omega (arith, lt_pow a, most)) (omega (arith, lt_pow b, most'))
