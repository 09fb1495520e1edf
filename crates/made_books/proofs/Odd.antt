-- How many odd numbers there are, and their sum.
use Rattle.std.proofs.Common.{◌≡◌, ℕ, ◌%◌, ◌+◌, List, [], ◌∷◌, ◌==◌, cond, refl, sum, count_by, arith}
use Rattle.std.proofs.lemmas.Bool.Decides.{nat_tests}
use Rattle.std.proofs.lemmas.List.Sums.{sum_by-cons}

pub odd_count : (xs : List ℕ) → count_by (λ v. v % 2 == 1) xs % 2 ≡ sum xs % 2
odd_count [] = refl
odd_count (x ∷ xs) =
    let h = odd_count xs in
    let ones : count_by (λ v. v % 2 == 1) (x ∷ xs) ≡ cond (x % 2 == 1) 1 0 + count_by (λ v. v % 2 == 1) xs = sum_by-cons (λ v. cond (v % 2 == 1) 1 0) x xs in
    let all : sum (x ∷ xs) ≡ x + sum xs = sum_by-cons (λ v. v) x xs in
    grind (arith, nat_tests, h, ones, all)
