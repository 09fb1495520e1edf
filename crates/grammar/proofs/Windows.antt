-- A part of a list whose bounds are cut to the list's length.
use Rattle.std.proofs.Common.{◌≡◌, ℕ, ◌+◌, ◌-◌, min, List, length, take, drop, sym, ap, ◌∙◌, inl, inr, arith, length-drop}
use Rattle.std.proofs.lemmas.List.{take_all, drop_all}
use Rattle.std.proofs.lemmas.Bool.{cases_lt}

pub take_min : {X : Type 0} (xs : List X) (n m : ℕ) → m ≡ min n (length xs) → take m xs ≡ take n xs
take_min xs n m e = elim (cases_lt n (length xs)) [
  | inl l ↦ ap (λ k. take k xs) (omega arith)
  | inr g ↦ ap (λ k. take k xs) {x = m} {y = length xs} (omega arith) ∙ take_all (length xs) xs (omega arith) ∙ sym (take_all n xs g)
]

pub drop_min : {X : Type 0} (xs : List X) (n m : ℕ) → m ≡ min n (length xs) → drop m xs ≡ drop n xs
drop_min xs n m e = elim (cases_lt n (length xs)) [
  | inl l ↦ ap (λ k. drop k xs) (omega arith)
  | inr g ↦ ap (λ k. drop k xs) {x = m} {y = length xs} (omega arith) ∙ drop_all (length xs) xs (omega arith) ∙ sym (drop_all n xs g)
]

-- n from p on
pub window : {X : Type 0} (xs : List X) (p n s m : ℕ) → s ≡ min p (length xs) → m ≡ min n (length xs - s) → take (s + m - s) (drop s xs) ≡ take n (drop p xs)
window xs p n s m e f =
    take_min (drop s xs) n (s + m - s) (omega (arith, length-drop s xs)) ∙ ap (take n) (drop_min xs p s e)
