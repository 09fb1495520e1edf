-- Choices among finitely many.
use Rattle.std.proofs.Common.{◌≡◌, ℕ, zero, suc, ◌<◌, ◌≤◌, ◌⊎◌, List, [], ◌∷◌, length, get_or, sum, refl, ap, subst, inl, inr, arith}
use Rattle.std.proofs.lemmas.List.Sums.{sum_by-cons}
use Rattle.std.proofs.lemmas.Bool.{cases_lt}

-- every number below n has P, or one of them has Q
pub all_or_some : (P Q : ℕ → Type 0) (n : ℕ) → ((x : ℕ) → x < n → P x ⊎ Q x) → ((x : ℕ) → x < n → P x) ⊎ ((x : ℕ) × (x < n) × Q x)
all_or_some P Q zero each = inl (λ x l. absurd (omega arith))
all_or_some P Q (suc n) each = elim (all_or_some P Q n (λ x l. each x (omega arith))) [
  | inr q ↦ inr (q.0, omega (arith, q.1), q.2)
  | inl p ↦ elim (each n (omega arith)) [
    | inr q ↦ inr (n, omega arith, q)
    | inl here ↦ inl (λ x l. elim (cases_lt x n) [ inl h ↦ p x h | inr g ↦ subst P {x = n} {y = x} (omega arith) here ])
  ]
]

-- a number for each place of a list
pub chosen : (P : ℕ → ℕ → Type 0) (n : ℕ) → ((x : ℕ) → x < n → (y : ℕ) × P x y) → (list : List ℕ) × (length list ≡ n) × ((x : ℕ) → x < n → P x (get_or list x 0))
chosen P zero each = ([], refl, λ x l. absurd (omega arith))
chosen P (suc n) each = go (each 0 (omega arith)) (chosen (λ x. P (suc x)) n (λ x l. each (suc x) (omega arith)))
  where
    go : (y : ℕ) × P 0 y → (list : List ℕ) × (length list ≡ n) × ((x : ℕ) → x < n → P (suc x) (get_or list x 0))
        → (list : List ℕ) × (length list ≡ suc n) × ((x : ℕ) → x < suc n → P x (get_or list x 0))
    go (y, here) (list, long, rest) = (y ∷ list, ap suc long, at)
      where
        at : (x : ℕ) → x < suc n → P x (get_or (y ∷ list) x 0)
        at zero l = here
        at (suc x) l = rest x (omega arith)

-- a list with smaller numbers has a smaller sum
pub sum_le : (a b : List ℕ) → length a ≡ length b → ((x : ℕ) → x < length a → get_or a x 0 ≤ get_or b x 0) → sum a ≤ sum b
sum_le [] [] e h = omega arith
sum_le [] (y ∷ b) e h = absurd (omega arith)
sum_le (x ∷ a) [] e h = absurd (omega arith)
sum_le (x ∷ a) (y ∷ b) e h = omega (arith, sum_by-cons (λ n. n) x a, sum_by-cons (λ n. n) y b, h 0 (omega arith), sum_le a b (omega arith) (λ x l. h (suc x) (omega arith)))
