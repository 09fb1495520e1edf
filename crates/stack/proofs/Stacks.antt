-- One more on a stack, and one less.
use Rattle.std.proofs.Common.{◌≡◌, ℕ, ◌+◌, ◌-◌, ◌<◌, ◌≤◌, List, [], ◌∷◌, reverse, length, get_or, take, set, refl, ap, ◌∙◌, arith}
use Rattle.std.proofs.lemmas.List.{take_more, take_more_set, reverse-append, length-reverse, length-take-le}
use Rattle.stack.specs.Stacked.{stacked}

pub stacked_none : {T : Type 0} (xs : List T) → stacked xs 0 ≡ []
unfolding stacked
stacked_none xs = refl

pub length_stacked : {T : Type 0} (xs : List T) (n : ℕ) → n ≤ length xs → length (stacked xs n) ≡ n
unfolding stacked
length_stacked xs n h = length-reverse (take n xs) ∙ length-take-le n xs h

pub stacked_push : {T : Type 0} (xs : List T) (n : ℕ) (x : T) → n < length xs → stacked (set xs n x) (n + 1) ≡ x ∷ stacked xs n
unfolding stacked
stacked_push xs n x h = ap reverse (take_more_set xs n x h) ∙ reverse-append (take n xs) (x ∷ [])

pub stacked_pop : {T : Type 0} (xs : List T) (n : ℕ) (d : T) → n ≤ length xs → (n ≡ 0 → ⊥) → stacked xs n ≡ get_or xs (n - 1) d ∷ stacked xs (n - 1)
unfolding stacked
stacked_pop xs n d h k =
    let e : n ≡ n - 1 + 1 = omega arith in
    let l : n - 1 < length xs = omega arith in
    ap (λ m. reverse (take m xs)) e ∙ ap reverse (take_more xs (n - 1) d l) ∙ reverse-append (take (n - 1) xs) (get_or xs (n - 1) d ∷ [])
