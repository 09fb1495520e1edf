-- One pass over the bytes, as the code makes it: `done` are the numbers that are read, `v` and `k` the value and
-- the digits so far of the one that is being read.
use Rattle.std.proofs.Common.{◌≡◌, ℕ, ◌+◌, ◌-◌, ◌*◌, ◌^◌, ◌<◌, ◌≤◌, cond, ◌&&◌, eqb, ltb, leb, List, [], ◌∷◌, ◌++◌, length, get_or, drop, Some, None, Option, ap, ◌∙◌, pow-suc, add-one, arith}
use Rattle.std.proofs.lemmas.List.{at_drop_more, at_drop_all}
use Rattle.std.proofs.lemmas.Bool.{cond-true, cond-false}
use Rattle.std.proofs.lemmas.Bool.Decides.{nat_tests}

abbrev pub pass : List ℕ → ℕ → ℕ → List ℕ → Option (List ℕ)
pass done v k [] = cond (ltb 0 k) (Some (done ++ v ∷ [])) None
pass done v k (b ∷ bs) =
    cond (leb 48 b && leb b 57 && ltb k 7) (pass done (v * 10 + (b - 48)) (k + 1) bs)
    (cond (eqb b 32 && ltb 0 k && ltb (length done) 2) (pass (done ++ v ∷ []) 0 0 bs) None)

pub digit-step
    : (xs done : List ℕ) (v k i : ℕ) → i < length xs → 48 ≤ get_or xs i 0 → get_or xs i 0 ≤ 57 → k < 7
    → pass done v k (drop i xs) ≡ pass done (v * 10 + (get_or xs i 0 - 48)) (k + 1) (drop (i + 1) xs)
digit-step xs done v k i h p q r =
    at_drop_more (pass done v k) xs i 0 h ∙ cond-true (leb 48 (get_or xs i 0) && leb (get_or xs i 0) 57 && ltb k 7) _ _ (grind (arith, nat_tests))

pub Blank-step
    : (xs done : List ℕ) (v k i : ℕ) → i < length xs → get_or xs i 0 ≡ 32 → 0 < k → length done < 2
    → pass done v k (drop i xs) ≡ pass (done ++ v ∷ []) 0 0 (drop (i + 1) xs)
Blank-step xs done v k i h p q r =
    at_drop_more (pass done v k) xs i 0 h
    ∙ cond-false (leb 48 (get_or xs i 0) && leb (get_or xs i 0) 57 && ltb k 7) _ _ (grind (arith, nat_tests))
    ∙ cond-true (eqb (get_or xs i 0) 32 && ltb 0 k && ltb (length done) 2) _ _ (grind (arith, nat_tests))

pub no_step
    : (xs done : List ℕ) (v k i : ℕ) → i < length xs → (48 ≤ get_or xs i 0 → get_or xs i 0 ≤ 57 → k < 7 → ⊥)
    → (get_or xs i 0 ≡ 32 → 0 < k → length done < 2 → ⊥) → pass done v k (drop i xs) ≡ None
no_step xs done v k i h p q =
    at_drop_more (pass done v k) xs i 0 h
    ∙ cond-false (leb 48 (get_or xs i 0) && leb (get_or xs i 0) 57 && ltb k 7) _ _ (grind (arith, nat_tests))
    ∙ cond-false (eqb (get_or xs i 0) 32 && ltb 0 k && ltb (length done) 2) _ _ (grind (arith, nat_tests))

pub end_some : (xs done : List ℕ) (v k i : ℕ) → length xs ≤ i → 0 < k → pass done v k (drop i xs) ≡ Some (done ++ v ∷ [])
end_some xs done v k i h p = at_drop_all (pass done v k) xs i h ∙ cond-true (ltb 0 k) _ _ (grind (arith, nat_tests))

pub end_none : (xs done : List ℕ) (v k i : ℕ) → length xs ≤ i → k ≡ 0 → pass done v k (drop i xs) ≡ None
end_none xs done v k i h p = at_drop_all (pass done v k) xs i h ∙ cond-false (ltb 0 k) _ _ (grind (arith, nat_tests))

pub ten_more : (k : ℕ) → 10 ^ (k + 1) ≡ 10 ^ k * 10
ten_more k = ap (λ n. 10 ^ n) (add-one k) ∙ pow-suc 10 k
