-- Rows compared value by value.
use Rattle.std.proofs.Common.{◌≡◌, ℕ, cond, eqb, ltb, Bool, true, false, List, [], ◌∷◌, length, Some, Option, refl, arith, ltb-true, eqb-true}
use Rattle.std.specs.declared.cmp.Ordering.{Ordering}
use Rattle.std.specs.declared.cmp.Ordering.TheVariants.{Less, Equal, Greater}
use Rattle.std.specs.Ordering.{is_lt, is_some_and, nat_cmp, partial_ordering_then}
use Rattle.std.specs.Cmp.Lexicographic.{slice_partial_cmp}
use Rattle.grammar.specs.Grammar.{before}

turn : (less same : Bool) (r : Option Ordering) (t : Bool) → is_some_and is_lt r ≡ t → ((less ≡ true) × (same ≡ true) → ⊥) → is_some_and is_lt (partial_ordering_then (Some (cond less Less (cond same Equal Greater))) r) ≡ cond same t less
turn true true r t h apart = absurd (apart (refl, refl))
turn true false r t h apart = refl
turn false true r t h apart = h
turn false false r t h apart = refl

-- of rows of one length the library's order is that of the book
pub before_is : (xs ys : List ℕ) → length xs ≡ length ys → is_some_and is_lt (slice_partial_cmp (λ x y. Some (nat_cmp x y)) xs ys) ≡ before xs ys
before_is [] [] e = refl
before_is [] (y ∷ ys) e = absurd (omega arith)
before_is (x ∷ xs) [] e = absurd (omega arith)
before_is (x ∷ xs) (y ∷ ys) e = turn (ltb x y) (eqb x y) _ _ (before_is xs ys (omega arith)) (λ p. let l = p.0 in let s = p.1 in let h = ltb-true x y l in let k = eqb-true x y s in absurd (omega arith))
