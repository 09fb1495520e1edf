-- The members of a set that is a number: of an intersection, a union, a single value.
use Rattle.std.proofs.Common.{◌≡◌, ℕ, zero, suc, ◌+◌, ◌-◌, ◌*◌, ◌/◌, ◌%◌, ◌^◌, ◌<◌, ◌≤◌, ◌⊎◌, sym, refl, ap, ◌∙◌, subst, inl, inr, mod-lt, arith, pow_pos}
use lib.Bits.{bit_and, bit_or, bit_xor, xor_add_and, and_le_r}
use lib.Pow.{ones_lt}
use lib.Count.{count_trailing_zeros, under, ones}
use Rattle.std.proofs.lemmas.Nat.{shr-shr, shr_split, and_mask}
use Rattle.std.proofs.lemmas.Nat.Bits.{bit_at-suc, bit_at-zero, bit_at_and, bit_at_or, bit_at_xor, bit_at-pow_same, bit_at-pow_other, bit_at_ones, bit_at_above, bit_at-lt, same_from_bits}
use Rattle.std.proofs.lemmas.Bool.{cases_lt, cases_eq}
use Rattle.values.specs.Members.{In}

pub in_both : (a b v : ℕ) → In (bit_and a b) v → In a v × In b v
in_both a b v h = (omega (arith, bit_at_and a b v), omega (arith, bit_at_and a b v))

pub in_and : (a b v : ℕ) → In a v → In b v → In (bit_and a b) v
in_and a b v h k = omega (arith, bit_at_and a b v)

pub in_either : (a b v : ℕ) → In (bit_or a b) v → In a v ⊎ In b v
in_either a b v h = elim (cases_eq (a / 2 ^ v % 2) 1) [ inl e ↦ inl e | inr n ↦ inr (omega (arith, bit_at_or a b v)) ]

pub in_or : (a b v : ℕ) → In a v ⊎ In b v → In (bit_or a b) v
in_or a b v h = elim h [ inl l ↦ omega (arith, bit_at_or a b v) | inr r ↦ omega (arith, bit_at_or a b v) ]

pub in_below : (s v : ℕ) → s < 2 ^ v → In s v → ⊥
in_below s v h e = omega (arith, bit_at_above s v v h (omega arith))

pub in_zero : (v : ℕ) → In 0 v → ⊥
in_zero v e = in_below 0 v (pow_pos v) e

pub in_one : (k : ℕ) → In (2 ^ k) k
in_one k = bit_at-pow_same k

pub in_one_only : (k v : ℕ) → In (2 ^ k) v → v ≡ k
in_one_only k v h = elim (cases_eq v k) [ inl e ↦ e | inr n ↦ omega (arith, bit_at-pow_other k v n) ]

-- ---- the lowest value of a set

half_lt : (k s : ℕ) → s < 2 ^ suc k → s / 2 < 2 ^ k
half_lt k s h = omega arith

pub in_suc : (s w : ℕ) → In (s / 2) w → In s (suc w)
in_suc s w h = bit_at-suc s w ∙ h

pub in_half : (s w : ℕ) → In s (suc w) → In (s / 2) w
in_half s w h = sym (bit_at-suc s w) ∙ h

pub trailing_member : (k s : ℕ) → s < 2 ^ k → 0 < s → In s (count_trailing_zeros k s)
unfolding count_trailing_zeros
trailing_member zero s h p = omega arith
trailing_member (suc k) s h p = go (trailing_member k (s / 2) (half_lt k s h)) (s % 2) refl
  where
    go : (0 < s / 2 → In (s / 2) (count_trailing_zeros k (s / 2))) → (d : ℕ) → s % 2 ≡ d → In s (under d (count_trailing_zeros k (s / 2)))
    go rest zero e = in_suc s (count_trailing_zeros k (s / 2)) (rest (omega arith))
    go rest (suc d) e = omega arith

pub trailing_lowest : (k s w : ℕ) → In s w → count_trailing_zeros k s ≤ w
unfolding count_trailing_zeros
trailing_lowest zero s w h = omega arith
trailing_lowest (suc k) s w h = go (λ w. trailing_lowest k (s / 2) w) (s % 2) w refl h
  where
    go : ((w : ℕ) → In (s / 2) w → count_trailing_zeros k (s / 2) ≤ w) → (d w : ℕ) → s % 2 ≡ d → In s w → under d (count_trailing_zeros k (s / 2)) ≤ w
    go rest zero zero e h = omega arith
    go rest zero (suc w) e h = omega (arith, rest w (in_half s w h))
    go rest (suc d) w e h = omega arith

pub ones_zero : ones 0 ≡ 0
unfolding ones
ones_zero = refl

pub some_from_ones : (s : ℕ) → 0 < ones s → 0 < s
some_from_ones zero h = omega (arith, ones_zero)
some_from_ones (suc s) h = omega arith

-- ---- a value taken out

-- s has v, and s xor 2 ^ v has the others
pub out_in : (s v w : ℕ) → In s v → In (bit_xor s (2 ^ v)) w → In s w × (w ≡ v → ⊥)
out_in s v w h e = elim (cases_eq w v) [
  | inl q ↦ absurd (omega (arith, bit_at_xor s (2 ^ v) v, in_one v, subst (In (bit_xor s (2 ^ v))) q e))
  | inr n ↦ (omega (arith, bit_at_xor s (2 ^ v) w, bit_at-pow_other v w n), n)
]

pub in_out : (s v w : ℕ) → In s w → (w ≡ v → ⊥) → In (bit_xor s (2 ^ v)) w
in_out s v w h ne = omega (arith, bit_at_xor s (2 ^ v) w, bit_at-pow_other v w ne)

pub in_ge : (s v : ℕ) → In s v → 2 ^ v ≤ s
in_ge s v h = elim (cases_lt s (2 ^ v)) [ inl l ↦ absurd (in_below s v l h) | inr g ↦ g ]

pub out_less : (s v : ℕ) → In s v → bit_xor s (2 ^ v) < s
out_less s v h = omega (arith, xor_add_and s (2 ^ v), and_le_r s (2 ^ v), in_ge (bit_and s (2 ^ v)) v (in_and s (2 ^ v) v h (in_one v)), pow_pos v)

-- ---- the values below a size

-- a value of a set of k digits is below k
pub in_lt : (k s v : ℕ) → s < 2 ^ k → In s v → v < k
in_lt k s v h e = elim (cases_lt v k) [ inl l ↦ l | inr g ↦ omega (arith, bit_at_above s k v h g) ]

pub lt_pow : (n : ℕ) → n < 2 ^ n
lt_pow zero = omega arith
lt_pow (suc n) = omega (arith, lt_pow n)

pub no_values : (s : ℕ) → ((v : ℕ) → In s v → ⊥) → s ≡ 0
no_values s none = same_from_bits s 0 (λ v. omega (arith, none v, bit_at-lt s v, bit_at-zero v))

pub empty_from_none : (k s : ℕ) → s < 2 ^ k → ((v : ℕ) → In s v → ⊥) → s ≡ 0
empty_from_none k s h none = no_values s none

-- the values of s / 2 ^ k are those of s from k on, less k
in_high : (s k w : ℕ) → In (s / 2 ^ k) w → In s (k + w)
in_high s k w h = ap (λ x. x % 2) (sym (shr-shr s k w)) ∙ h

pub below_from_values : (s k : ℕ) → ((v : ℕ) → In s v → v < k) → s < 2 ^ k
below_from_values s k low =
    let e : s / 2 ^ k ≡ 0 = no_values (s / 2 ^ k) (λ w h. omega (arith, low (k + w) (in_high s k w h))) in
    omega (arith, ap (λ q. q * 2 ^ k) e, shr_split s k, mod-lt s (pow_pos k))

-- the values of s below k
pub in_mod : (s k v : ℕ) → In (s % 2 ^ k) v → In s v × (v < k)
in_mod s k v h =
    let both = in_both s (2 ^ k - 1) v (subst (λ m. In m v) (sym (and_mask s k)) h) in
    (both.0, in_lt k (2 ^ k - 1) v (ones_lt k) both.1)

pub mod_in : (s k v : ℕ) → v < k → In s v → In (s % 2 ^ k) v
mod_in s k v l h = subst (λ m. In m v) (and_mask s k) (in_and s (2 ^ k - 1) v h (bit_at_ones k v l))

-- ---- sets with the same values are the same number

pub same_from_values : (s t : ℕ) → ((v : ℕ) → In s v → In t v) → ((v : ℕ) → In t v → In s v) → s ≡ t
same_from_values s t a b = same_from_bits s t (λ v. elim (cases_eq (s / 2 ^ v % 2) 1) [
  | inl e ↦ e ∙ sym (a v e)
  | inr n ↦ elim (cases_eq (t / 2 ^ v % 2) 1) [ inl e ↦ absurd (n (b v e)) | inr m ↦ omega arith ]
])

-- ---- all values below a size

pub full_in : (k v : ℕ) → v < k → In (2 ^ k - 1) v
full_in k v l = bit_at_ones k v l

pub full_if : (k s : ℕ) → s < 2 ^ k → ((v : ℕ) → v < k → In s v) → s ≡ 2 ^ k - 1
full_if k s h all = same_from_values s (2 ^ k - 1) (λ v m. full_in k v (in_lt k s v h m)) (λ v m. all v (in_lt k (2 ^ k - 1) v (ones_lt k) m))
