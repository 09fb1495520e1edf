-- The last of a list that grows, when only so many are kept.
use Rattle.std.proofs.Common.{◌≡◌, ℕ, zero, suc, ◌+◌, ◌<◌, ◌≤◌, List, [], ◌∷◌, reverse, length, get_or, take, sym, refl, ap, ◌∙◌, arith}
use Rattle.std.proofs.lemmas.List.{take-take, take_more, take_all, reverse-append}

pub take_front : {X : Type 0} (n : ℕ) (x : X) (xs : List X) → take n (x ∷ take n xs) ≡ take n (x ∷ xs)
take_front zero x xs = refl
take_front (suc n) x xs = ap (λ ys. x ∷ ys) (take-take n (suc n) xs (omega arith))

pub last_more : {X : Type 0} (xs : List X) (i n : ℕ) (d : X) (before after : List X) → i < length xs → before ≡ take n (reverse (take i xs)) → after ≡ take n (get_or xs i d ∷ before) → after ≡ take n (reverse (take (i + 1) xs))
last_more xs i n d before after l e h =
    let x = get_or xs i d in
    let more : reverse (take (i + 1) xs) ≡ x ∷ reverse (take i xs) = ap reverse (take_more xs i d l) ∙ reverse-append (take i xs) (x ∷ []) in
    h ∙ ap (λ ys. take n (x ∷ ys)) e ∙ take_front n x (reverse (take i xs)) ∙ ap (take n) (sym more)

pub last_all : {X : Type 0} (xs : List X) (i n : ℕ) (kept : List X) → length xs ≤ i → kept ≡ take n (reverse (take i xs)) → kept ≡ take n (reverse xs)
last_all xs i n kept l h = h ∙ ap (λ ys. take n (reverse ys)) (take_all i xs l)
