-- One value more behind a blank.
use Rattle.std.proofs.Common.{◌≡◌, ℕ, ◌+◌, ◌<◌, List, [], ◌∷◌, ◌++◌, length, get_or, take, codes, decimal, sym, refl, ap, ◌∙◌, append_assoc, append-nil}
use Rattle.std.proofs.lemmas.List.{take_more}
use Rattle.console.specs.Printed.{spaced}

spaced_++ : (xs ys : List ℕ) → spaced (xs ++ ys) ≡ spaced xs ++ spaced ys
spaced_++ [] ys = refl
spaced_++ (x ∷ xs) ys = ap (λ t. (codes " " ++ decimal x) ++ t) (spaced_++ xs ys) ∙ sym (append_assoc (codes " " ++ decimal x) (spaced xs) (spaced ys))

pub spaced_more : (xs : List ℕ) (i : ℕ) → i < length xs → spaced (take (i + 1) xs) ≡ spaced (take i xs) ++ (codes " " ++ decimal (get_or xs i 0))
spaced_more xs i h =
    ap spaced (take_more xs i 0 h) ∙ spaced_++ (take i xs) (get_or xs i 0 ∷ []) ∙ ap (λ t. spaced (take i xs) ++ t) (append-nil (codes " " ++ decimal (get_or xs i 0)))
