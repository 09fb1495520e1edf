-- A line by its first two bytes.
use Rattle.std.proofs.Common.{◌≡◌, ℕ, ◌-◌, ◌<◌, ◌≤◌, Bool, true, false, cond, eqb, leb, List, [], ◌∷◌, length, get_or, take, drop, Some, None, Option, sym, refl, ap, ◌∙◌, inl, inr, arith}
use Rattle.std.proofs.lemmas.List.{at_drop_more, take_rest}
use Rattle.std.proofs.lemmas.Bool.{cond-true, cond-false, cases_lt, cases_eq, eq-eqb, ne_eqb, le-leb, lt-leb}
use Rattle.console.specs.Grammar.{Opening, onto, parts, numerals, up_to_three, decided, asked, saying, sentence, command}

-- more than three numbers say nothing
saying_few : (c : ℕ) (o : Option (List ℕ)) → saying c o ≡ saying c (up_to_three o)
saying_few c None = refl
saying_few c (Some ns) =
    elim (cases_lt 3 (length ns)) [
      | inl h ↦ cond-false (eqb (length ns) 3) _ _ (ne_eqb (length ns) 3 (λ e. omega arith))
          ∙ cond-false (eqb (length ns) 2) _ _ (ne_eqb (length ns) 2 (λ e. omega arith))
          ∙ sym (ap (saying c) (cond-false (leb (length ns) 3) (Some ns) None (lt-leb (length ns) 3 h)))
      | inr h ↦ sym (ap (saying c) (cond-true (leb (length ns) 3) (Some ns) None (le-leb (length ns) 3 h)))
    ]

either_none : {A : Type 0} (b : Bool) (x y : Option A) → x ≡ None → y ≡ None → cond b x y ≡ None
either_none true x y h g = h
either_none false x y h g = g

-- a blank is no letter
decided_blank : (c p o v : ℕ) → c ≡ 32 → decided c p o v ≡ None
decided_blank c p o v h =
    cond-false (eqb c 70) _ _ (ne_eqb c 70 (λ e. omega arith)) ∙ cond-false (eqb c 66) _ _ (ne_eqb c 66 (λ e. omega arith))
    ∙ cond-false (eqb c 102) _ _ (ne_eqb c 102 (λ e. omega arith)) ∙ cond-false (eqb c 98) _ _ (ne_eqb c 98 (λ e. omega arith))

asked_blank : (c p b : ℕ) → c ≡ 32 → asked c p b ≡ None
asked_blank c p b h = cond-false (eqb c 65) _ _ (ne_eqb c 65 (λ e. omega arith))

saying_blank : (c : ℕ) (o : Option (List ℕ)) → c ≡ 32 → saying c o ≡ None
saying_blank c None h = refl
saying_blank c (Some ns) h =
    either_none (eqb (length ns) 3) (decided c (get_or ns 0 0) (get_or ns 1 0) (get_or ns 2 0)) (cond (eqb (length ns) 2) (asked c (get_or ns 0 0) (get_or ns 1 0)) None)
    (decided_blank c (get_or ns 0 0) (get_or ns 1 0) (get_or ns 2 0) h)
    (either_none (eqb (length ns) 2) (asked c (get_or ns 0 0) (get_or ns 1 0)) None (asked_blank c (get_or ns 0 0) (get_or ns 1 0) h) refl)

blank_first : (c : ℕ) (bs : List ℕ) → c ≡ 32 → sentence (parts (c ∷ bs)) ≡ None
blank_first c bs h = ap sentence (cond-true (eqb c 32) ([] ∷ parts bs) (onto c (parts bs)) (eq-eqb c 32 h))

other_first : (c : ℕ) (bs : List ℕ) → (c ≡ 32 → ⊥) → sentence (parts (c ∷ bs)) ≡ sentence (onto c (parts bs))
other_first c bs h = ap sentence (cond-false (eqb c 32) ([] ∷ parts bs) (onto c (parts bs)) (ne_eqb c 32 h))

then_blank : (c b : ℕ) (bs : List ℕ) → b ≡ 32 → sentence (parts (c ∷ b ∷ bs)) ≡ saying c (up_to_three (numerals (parts bs)))
then_blank c b bs h =
    elim (cases_eq c 32) [
      | inl e ↦ blank_first c (b ∷ bs) e ∙ sym (saying_blank c (up_to_three (numerals (parts bs))) e)
      | inr e ↦ other_first c (b ∷ bs) e
          ∙ ap (λ ps. sentence (onto c ps)) (cond-true (eqb b 32) ([] ∷ parts bs) (onto b (parts bs)) (eq-eqb b 32 h))
          ∙ saying_few c (numerals (parts bs))
    ]

two_letters : (c b : ℕ) (ps : List (List ℕ)) → sentence (onto c (onto b ps)) ≡ None
two_letters c b [] = refl
two_letters c b (p ∷ ps) = refl

then_other : (c b : ℕ) (bs : List ℕ) → (b ≡ 32 → ⊥) → sentence (parts (c ∷ b ∷ bs)) ≡ None
then_other c b bs h =
    elim (cases_eq c 32) [
      | inl e ↦ blank_first c (b ∷ bs) e
      | inr e ↦ other_first c (b ∷ bs) e
          ∙ ap (λ ps. sentence (onto c ps)) (cond-false (eqb b 32) ([] ∷ parts bs) (onto b (parts bs)) (ne_eqb b 32 h))
          ∙ two_letters c b (parts bs)
    ]

one_letter : (c : ℕ) → sentence (parts (c ∷ [])) ≡ None
one_letter c = elim (eqb c 32) as (λ t. sentence (cond t ([] ∷ [] ∷ []) (onto c ([] ∷ []))) ≡ None) [ true ↦ refl | false ↦ refl ]

short_none : (xs : List ℕ) → length xs < 2 → sentence (parts xs) ≡ None
short_none [] h = refl
short_none (c ∷ []) h = one_letter c
short_none (c ∷ b ∷ bs) h = absurd (omega arith)

opened : {Y : Type 0} (F : List ℕ → Y) (xs : List ℕ) → 2 ≤ length xs
    → F xs ≡ F (get_or xs 0 0 ∷ get_or xs 1 0 ∷ take (length xs - 2) (drop 2 xs))
opened F xs h =
    at_drop_more F xs 0 0 (omega arith)
    ∙ at_drop_more (λ t. F (get_or xs 0 0 ∷ t)) xs 1 0 (omega arith)
    ∙ ap (λ t. F (get_or xs 0 0 ∷ get_or xs 1 0 ∷ t)) (sym (take_rest xs 2))

within : (xs : List ℕ) → length xs ≤ 40 → command xs ≡ sentence (parts xs)
within xs h = cond-true (leb (length xs) 40) _ _ (le-leb (length xs) 40 h)

command_long : (xs : List ℕ) → 40 < length xs → command xs ≡ None
command_long xs h = cond-false (leb (length xs) 40) _ _ (lt-leb (length xs) 40 h)

command_short : (xs : List ℕ) → length xs < 2 → command xs ≡ None
command_short xs h = within xs (omega arith) ∙ short_none xs h

command_apart : (xs : List ℕ) → 2 ≤ length xs → length xs ≤ 40 → (get_or xs 1 0 ≡ 32 → ⊥) → command xs ≡ None
command_apart xs h g f =
    within xs g ∙ opened (λ ys. sentence (parts ys)) xs h ∙ then_other (get_or xs 0 0) (get_or xs 1 0) (take (length xs - 2) (drop 2 xs)) f

pub command_by : (xs : List ℕ) → Opening xs
    → command xs ≡ saying (get_or xs 0 0) (up_to_three (numerals (parts (take (length xs - 2) (drop 2 xs)))))
command_by xs h =
    within xs h.1 ∙ opened (λ ys. sentence (parts ys)) xs h.0 ∙ then_blank (get_or xs 0 0) (get_or xs 1 0) (take (length xs - 2) (drop 2 xs)) h.2

pub command_not : (xs : List ℕ) → (Opening xs → ⊥) → command xs ≡ None
command_not xs h =
    elim (cases_lt (length xs) 2) [
      | inl g ↦ command_short xs g
      | inr g ↦ elim (cases_lt 40 (length xs)) [
        | inl f ↦ command_long xs f
        | inr f ↦ command_apart xs g f (λ e. h (g, f, e))
      ]
    ]
