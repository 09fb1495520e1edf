-- What a list has, whatever its order.
use Rattle.std.proofs.Common.{◌≡◌, ℕ, zero, suc, ◌-◌, ◌<◌, ◌⊎◌, List, [], ◌∷◌, ◌++◌, reverse, length, take, sym, refl, ◌∙◌, subst, inl, inr, arith}
use Rattle.std.specs.List.{ContainsAt as Has}
use Rattle.std.proofs.lemmas.List.{get_or-reverse, length-reverse, reverse-reverse}
use Rattle.std.proofs.ByRecursion.{has_append_left, has_append_right}

pub has_cons : {X : Type 0} (y : X) (ys : List X) (x : X) → Has (y ∷ ys) x → Has ys x ⊎ (x ≡ y)
has_cons y ys x (zero, l, e) = inr (sym (e y))
has_cons y ys x (suc k, l, e) = inl (k, omega arith, e)

pub has_later : {X : Type 0} (y : X) (ys : List X) (x : X) → Has ys x → Has (y ∷ ys) x
has_later y ys x (k, l, e) = (suc k, omega arith, e)

pub has_first : {X : Type 0} (y : X) (ys : List X) → Has (y ∷ ys) y
has_first y ys = (0, omega arith, λ d. refl)

pub has_take : {X : Type 0} (n : ℕ) (ys : List X) (x : X) → Has (take n ys) x → Has ys x
has_take zero ys x (k, l, e) = absurd (omega arith)
has_take (suc n) [] x h = h
has_take (suc n) (y ∷ ys) x h =
    elim (has_cons y (take n ys) x h) [
      | inl t ↦ has_later y ys x (has_take n ys x t)
      | inr e ↦ subst (λ z. Has (y ∷ ys) z) (sym e) (has_first y ys)
    ]

-- a told box in front: what is among the first of them was there or is the told one
pub has_told : {X : Type 0} (n : ℕ) (b : X) (ys : List X) (x : X) → Has (take n (b ∷ ys)) x → Has ys x ⊎ (x ≡ b)
has_told n b ys x h = has_cons b ys x (has_take n (b ∷ ys) x h)

pub has_reverse : {X : Type 0} (ys : List X) (x : X) → Has ys x → Has (reverse ys) x
has_reverse ys x (k, l, e) =
    let m : length ys - 1 - k < length ys = omega arith in
    let back : length ys - 1 - (length ys - 1 - k) ≡ k = omega arith in
    (length ys - 1 - k, omega (arith, length-reverse ys), λ d. get_or-reverse ys (length ys - 1 - k) d m ∙ rw back (e d))

pub has_unreversed : {X : Type 0} (ys : List X) (x : X) → Has (reverse ys) x → Has ys x
has_unreversed ys x h = subst (λ zs. Has zs x) (reverse-reverse ys) (has_reverse (reverse ys) x h)

pub has_split : {X : Type 0} (xs ys : List X) (x : X) → Has (xs ++ ys) x → Has xs x ⊎ Has ys x
has_split [] ys x h = inr h
has_split (z ∷ xs) ys x h =
    elim (has_cons z (xs ++ ys) x h) [
      | inl t ↦ elim (has_split xs ys x t) [ inl u ↦ inl (has_later z xs x u) | inr v ↦ inr v ]
      | inr e ↦ inl (subst (λ w. Has (z ∷ xs) w) (sym e) (has_first z xs))
    ]

pub has_swapped : {X : Type 0} (xs ys : List X) (x : X) → Has (xs ++ ys) x → Has (ys ++ xs) x
has_swapped xs ys x h =
    elim (has_split xs ys x h) [ inl u ↦ has_append_right ys xs x u | inr v ↦ has_append_left ys xs x v ]
