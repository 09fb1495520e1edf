-- Rows that rise are all different.
use Rattle.std.proofs.Common.{◌≡◌, ℕ, zero, suc, ◌<◌, Bool, true, false, cond, eqb, ltb, List, [], ◌∷◌, length, get_or, Some, Option, sym, refl, ap, ◌∙◌, subst, arith, ltb-true, lt-ltb, eq-eqb, ne_eqb, eqb-true}
use borrow.Author.Tests.{clash}
use Rattle.grammar.specs.Grammar.{before, rises}

-- how the first of two rows came before the other: by its first value, or behind the same first value
before_cases : {P : Type 0} (x y : ℕ) (xs ys : List ℕ) → before (x ∷ xs) (y ∷ ys) ≡ true → (x < y → P) → (x ≡ y → before xs ys ≡ true → P) → P
before_cases {P} x y xs ys e less same = go (eqb x y) refl e
  where
    go : (b : Bool) → eqb x y ≡ b → cond b (before xs ys) (ltb x y) ≡ true → P
    go true is e = same (eqb-true x y is) e
    go false is e = less (ltb-true x y e)

before_less : (x y : ℕ) (xs ys : List ℕ) → x < y → before (x ∷ xs) (y ∷ ys) ≡ true
before_less x y xs ys h = ap (λ b. cond b (before xs ys) (ltb x y)) (ne_eqb x y (λ e. omega arith)) ∙ lt-ltb x y h

before_same : (x y : ℕ) (xs ys : List ℕ) → x ≡ y → before xs ys ≡ true → before (x ∷ xs) (y ∷ ys) ≡ true
before_same x y xs ys e h = ap (λ b. cond b (before xs ys) (ltb x y)) (eq-eqb x y e) ∙ h

before_trans : (xs ys zs : List ℕ) → before xs ys ≡ true → before ys zs ≡ true → before xs zs ≡ true
before_trans [] ys zs p q = absurd (clash p)
before_trans (x ∷ xs) [] zs p q = absurd (clash p)
before_trans (x ∷ xs) (y ∷ ys) [] p q = absurd (clash q)
before_trans (x ∷ xs) (y ∷ ys) (z ∷ zs) p q =
    before_cases x y xs ys p
    (λ l. before_cases y z ys zs q (λ m. before_less x z xs zs (omega arith)) (λ e r. before_less x z xs zs (omega arith)))
    (λ e r. before_cases y z ys zs q (λ m. before_less x z xs zs (omega arith)) (λ f s. before_same x z xs zs (e ∙ f) (before_trans xs ys zs r s)))

before_self : (xs : List ℕ) → before xs xs ≡ true → ⊥
before_self [] e = clash e
before_self (x ∷ xs) e = before_cases x x xs xs e (λ l. omega arith) (λ _ r. before_self xs r)

-- rows each of which rises above the one in front of it
abbrev pub Rises : Option (List ℕ) → List (List ℕ) → Type 0
Rises last [] = Unit {0}
Rises last (x ∷ xs) = (rises last x ≡ true) × Rises (Some x) xs

-- such rows all come behind the one in front of them
behind_all : (a : List ℕ) (rows : List (List ℕ)) → Rises (Some a) rows → (r : ℕ) → r < length rows → before a (get_or rows r []) ≡ true
behind_all a [] h r lt = absurd (omega arith)
behind_all a (x ∷ xs) h zero lt = h.0
behind_all a (x ∷ xs) h (suc r) lt = before_trans a x (get_or xs r []) h.0 (behind_all x xs h.1 r (omega arith))

pub rises_apart : (last : Option (List ℕ)) (rows : List (List ℕ)) → Rises last rows → (q r : ℕ) → q < r → r < length rows → get_or rows q [] ≡ get_or rows r [] → ⊥
rises_apart last [] h q r lt in-r e = omega arith
rises_apart last (x ∷ xs) h zero zero lt in-r e = omega arith
rises_apart last (x ∷ xs) h zero (suc r) lt in-r e = before_self x (subst (λ y. before x y ≡ true) (sym e) (behind_all x xs h.1 r (omega arith)))
rises_apart last (x ∷ xs) h (suc q) zero lt in-r e = omega arith
rises_apart last (x ∷ xs) h (suc q) (suc r) lt in-r e = rises_apart (Some x) xs h.1 q r (omega arith) (omega arith) e
