-- Sets of one value.
use Rattle.std.proofs.Common.{◌≡◌, ℕ, zero, suc, ◌+◌, ◌*◌, ◌/◌, ◌%◌, ◌^◌, ◌<◌, sym, refl, ap, ◌∙◌, subst, inl, inr, pow-suc, arith, pow_pos}
use Rattle.std.proofs.lemmas.Bool.{cases_eq}
use lib.Count.{ones, ones_cat, ones_step}
use Rattle.values.specs.Members.{In}
use Rattle.values.proofs.Digits.{in_one, in_one_only, lt_pow, ones_zero}

ones_one : ones 1 + ones 0 ≡ 1
unfolding ones
ones_one = refl

pub one_value : (v : ℕ) → ones (2 ^ v) ≡ 1
one_value v = let e : 1 * 2 ^ v + 0 ≡ 2 ^ v = omega arith in sym (ap ones e) ∙ ones_cat v 1 0 (pow_pos v) ∙ ones_one

-- it is a set of that value alone
pub same_value : (v w : ℕ) → 2 ^ v ≡ 2 ^ w → v ≡ w
same_value v w e = in_one_only w v (subst (λ s. In s v) e (in_one v))

-- ---- a set with one value is the set of that value

has_ones : (k s : ℕ) → s < 2 ^ k → 0 < s → 0 < ones s
has_ones zero s h p = omega arith
has_ones (suc k) s h p = elim (cases_eq (s % 2) 0) [
  | inl e ↦ omega (arith, ones_step s, has_ones k (s / 2) (omega (arith, pow-suc 2 k)) (omega arith))
  | inr ne ↦ omega (arith, ones_step s)
]

pub some_ones : (s : ℕ) → 0 < s → 0 < ones s
some_ones s = has_ones s s (lt_pow s)

value_of : (k s : ℕ) → s < 2 ^ k → ones s ≡ 1 → (v : ℕ) × (s ≡ 2 ^ v)
value_of zero s h e = absurd (omega (arith, ap ones {x = s} {y = 0} (omega arith), ones_zero))
value_of (suc k) s h e = elim (cases_eq (s % 2) 0) [
  | inl even ↦
      let r = value_of k (s / 2) (omega (arith, pow-suc 2 k)) (omega (arith, ones_step s)) in
      (suc r.0, omega (arith, r.1, pow-suc 2 r.0))
  | inr odd ↦ elim (cases_eq (s / 2) 0) [
    | inl z ↦ (0, omega arith)
    | inr nz ↦ absurd (omega (arith, ones_step s, some_ones (s / 2) (omega arith)))
  ]
]

pub the_value : (s : ℕ) → ones s ≡ 1 → (v : ℕ) × (s ≡ 2 ^ v)
the_value s = value_of s s (lt_pow s)
