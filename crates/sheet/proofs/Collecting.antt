-- The values below a number that have a property, collected one by one into a set; and the sets of options, one by one.
use Rattle.std.proofs.Common.{◌≡◌, ℕ, ◌+◌, ◌^◌, ◌<◌, ◌⊎◌, sym, subst, inl, inr, ⊎_elim, arith, below_more}
use lib.Bits.{bit_or}
use Rattle.values.specs.Members.{In}
use Rattle.values.proofs.Digits.{in_either, in_or, in_one, in_one_only}

-- the set has just the values below n that have the property
abbrev pub Collected : (ℕ → Type 0) → ℕ → ℕ → Type 0
Collected P n s = ((v : ℕ) → In s v → (v < n) × P v) × ((v : ℕ) → v < n → P v → In s v)

pub collect_put : (P : ℕ → Type 0) (n s t : ℕ) → Collected P n s → t ≡ bit_or s (2 ^ n) → P n → Collected P (n + 1) t
collect_put P n s t so is here = (
  λ v h. ⊎_elim
      (λ i. (omega (arith, (so.0 v i).0), (so.0 v i).1))
      (λ i. let e : v ≡ n = in_one_only n v i in (omega arith, subst P (sym e) here))
      (in_either s (2 ^ n) v (subst (λ k. In k v) is h)),
  λ v lt p. subst (λ k. In k v) (sym is) (in_or s (2 ^ n) v
      (below_more (λ k. P k → In s k ⊎ In (2 ^ n) k) n (λ k h q. inl (so.1 k h q)) (λ _. inr (in_one n)) v lt p)),
)

pub collect_skip : (P : ℕ → Type 0) (n s t : ℕ) → Collected P n s → t ≡ s → (P n → ⊥) → Collected P (n + 1) t
collect_skip P n s t so is none = subst (Collected P (n + 1)) (sym is) (
  λ v h. (omega (arith, (so.0 v h).0), (so.0 v h).1),
  below_more (λ k. P k → In s k) n (λ k h q. so.1 k h q) (λ q. absurd (none q)),
)
