-- The names, cut one after another from the bytes of all.
use Rattle.std.proofs.Common.{◌≡◌, ℕ, suc, ◌≤◌, List, [], ◌∷◌, ◌++◌, map, length, take, drop, sum, refl, ap, ◌∙◌, arith, length-drop, length-take-le}
use lib.Seq.{take-append-le}
use Rattle.std.proofs.lemmas.List.{drop-append-le}
use Rattle.std.proofs.lemmas.List.Sums.{sum_by-cons}
use Rattle.grammar.specs.Layout.{cut}

pub length_cut : (xs ns : List ℕ) → length (cut xs ns) ≡ length ns
length_cut xs [] = refl
length_cut xs (n ∷ ns) = ap suc (length_cut (drop n xs) ns)

pub cut_lengths : (xs ns : List ℕ) → sum ns ≤ length xs → map length (cut xs ns) ≡ ns
cut_lengths xs [] h = refl
cut_lengths xs (n ∷ ns) h =
    let total = sum_by-cons (λ x. x) n ns in
    let one : length (take n xs) ≡ n = length-take-le n xs (omega arith) in
    let rest = cut_lengths (drop n xs) ns (simp length-drop (omega arith)) in
    (λ t. one t ∷ rest t)

-- what stands behind all names is in none
pub cut_front : (xs ys ns : List ℕ) → sum ns ≤ length xs → cut (xs ++ ys) ns ≡ cut xs ns
cut_front xs ys [] h = refl
cut_front xs ys (n ∷ ns) h =
    let total = sum_by-cons (λ x. x) n ns in
    let le : n ≤ length xs = omega arith in
    let rest : cut (drop n (xs ++ ys)) ns ≡ cut (drop n xs) ns = ap (λ l. cut l ns) (drop-append-le n xs ys le) ∙ cut_front (drop n xs) ys ns (simp length-drop (omega arith)) in
    (λ t. take-append-le n xs ys le t ∷ rest t)
