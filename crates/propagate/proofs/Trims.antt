-- The loop that takes out the values that options lack.
use Rattle.std.proofs.Common.{◌≡◌, ℕ, ◌+◌, ◌-◌, ◌%◌, ◌^◌, ◌<◌, ◌≤◌, List, length, get_or, set, refl, ◌∙◌, subst, ap₂, inl, inr, arith}
use lib.Bits.{bit_and}
use Rattle.std.proofs.lemmas.List.{get_or-set_same, get_or-set_other}
use Rattle.std.proofs.lemmas.Nat.{and_mask}
use Rattle.std.proofs.lemmas.Bool.{cases_lt}

-- the places below m are trimmed, and the others are as they were
pub record Trimming (sizes before : List ℕ) (m : ℕ) (now : List ℕ) : Type 0 where
  pub done : (y : ℕ) → y < m → get_or now y 0 ≡ get_or before y 0 % 2 ^ get_or sizes y 0
  pub rest : (y : ℕ) → m ≤ y → get_or now y 0 ≡ get_or before y 0

pub trimming_none : (sizes before : List ℕ) (m : ℕ) → m ≡ 0 → Trimming sizes before m before
trimming_none sizes before m z = record { done = λ y l. absurd (omega arith); rest = λ y l. refl }

pub trimming_more : (sizes before : List ℕ) (m : ℕ) (now : List ℕ) (all : ℕ) → m < length now → all ≡ 2 ^ get_or sizes m 0 - 1
    → Trimming sizes before m now → Trimming sizes before (m + 1) (set now m (bit_and (get_or now m 0) all))
trimming_more sizes before m now all within is old = record {
  done = λ y l. elim (cases_lt y m) [
    | inl h ↦ get_or-set_other now m y _ 0 (omega arith) ∙ old.done y h
    | inr g ↦ subst (λ y. get_or (set now m (bit_and (get_or now m 0) all)) y 0 ≡ get_or before y 0 % 2 ^ get_or sizes y 0) {x = m} {y = y} (omega arith)
        (get_or-set_same now m _ 0 within ∙ ap₂ bit_and (old.rest m (omega arith)) is ∙ and_mask (get_or before m 0) (get_or sizes m 0))
  ];
  rest = λ y l. get_or-set_other now m y _ 0 (omega arith) ∙ old.rest y (omega arith);
}
