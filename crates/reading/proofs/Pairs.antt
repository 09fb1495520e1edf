-- Two lists of one length, side by side.
use Rattle.std.proofs.Common.{◌≡◌, ℕ, List, [], ◌∷◌, ◌++◌, map, length, refl, ap, arith}

abbrev pub pairs : List ℕ → List ℕ → List (ℕ × ℕ)
pairs [] ys = []
pairs (x ∷ xs) [] = []
pairs (x ∷ xs) (y ∷ ys) = (x, y) ∷ pairs xs ys

pub pairs_push : (xs ys : List ℕ) (x y : ℕ) → length xs ≡ length ys → pairs (xs ++ x ∷ []) (ys ++ y ∷ []) ≡ pairs xs ys ++ (x, y) ∷ []
pairs_push [] [] x y e = refl
pairs_push [] (b ∷ ys) x y e = absurd (omega arith)
pairs_push (a ∷ xs) [] x y e = absurd (omega arith)
pairs_push (a ∷ xs) (b ∷ ys) x y e = ap (λ l. (a, b) ∷ l) (pairs_push xs ys x y (omega arith))

pub firsts : (xs ys : List ℕ) → length xs ≡ length ys → map (λ p. p.0) (pairs xs ys) ≡ xs
firsts [] ys e = refl
firsts (x ∷ xs) [] e = absurd (omega arith)
firsts (x ∷ xs) (y ∷ ys) e = ap (λ l. x ∷ l) (firsts xs ys (omega arith))

pub seconds : (xs ys : List ℕ) → length xs ≡ length ys → map (λ p. p.1) (pairs xs ys) ≡ ys
seconds [] [] e = refl
seconds [] (y ∷ ys) e = absurd (omega arith)
seconds (x ∷ xs) [] e = absurd (omega arith)
seconds (x ∷ xs) (y ∷ ys) e = ap (λ l. y ∷ l) (seconds xs ys (omega arith))
