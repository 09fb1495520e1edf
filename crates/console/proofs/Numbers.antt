-- Numbers of seven digits, and the parts of a text as the library cuts it.
use Rattle.std.proofs.Common.{◌≡◌, ℕ, ◌^◌, ◌<◌, ◌≤◌, cond, eqb, List, [], ◌∷◌, refl, ap, ◌∙◌, arith}
use native.Mathlib.Nat.{pow-le-pow_right}
use Rattle.std.specs.List.{slice_split, onto_first}
use Rattle.console.specs.Grammar.{onto, parts}

pub below_million : (v k : ℕ) → v < 10 ^ k → k < 7 → v < 1000000
below_million v k h q =
    let p : 0 < 10 = omega arith in
    let g : k ≤ 6 = omega arith in
    let m : 10 ^ k ≤ 10 ^ 6 = pow-le-pow_right p g in
    omega arith

-- the parts, as the library cuts a list
abbrev pub cut : List ℕ → List (List ℕ)
cut bs = slice_split (λ b. eqb b 32) bs

onto_same : (b : ℕ) (ps : List (List ℕ)) → onto_first b ps ≡ onto b ps
onto_same b [] = refl
onto_same b (p ∷ ps) = refl

pub cut_is : (bs : List ℕ) → cut bs ≡ parts bs
cut_is [] = refl
cut_is (b ∷ bs) = ap (λ ps. cond (eqb b 32) ([] ∷ ps) (onto_first b ps)) (cut_is bs) ∙ ap (λ o. cond (eqb b 32) ([] ∷ parts bs) o) (onto_same b (parts bs))
