-- The pass over the bytes finds the numbers of the parts; and a line by its first two bytes.
use Rattle.std.proofs.Common.{◌≡◌, ℕ, suc, ◌+◌, ◌-◌, ◌*◌, ◌<◌, ◌≤◌, true, false, cond, ◌&&◌, eqb, ltb, leb, ◌⊎◌, List, [], ◌∷◌, ◌++◌, length, Some, None, Option, sym, refl, ap, ◌∙◌, inl, inr, zero-add, arith}
use Rattle.std.proofs.lemmas.List.{append_assoc, length_push, length-append}
use Rattle.std.proofs.lemmas.Bool.{cond-true, cond-false, cases_lt, cases_eq, eq-eqb, ne_eqb, le-leb, lt-leb}
use Rattle.std.proofs.lemmas.Bool.Decides.{nat_tests}
use Rattle.console.specs.Grammar.{onto, parts, is_digit, all_digits, worth, numeral, before, numerals, up_to_three}
use Rattle.console.proofs.Passing.{pass}

-- a part behind k digits that say v
abbrev continued : ℕ → ℕ → List ℕ → Option ℕ
continued v k p = cond (leb 1 (k + length p) && leb (k + length p) 7 && all_digits p) (Some (worth v p)) None

abbrev behind : ℕ → ℕ → List (List ℕ) → Option (List ℕ)
behind v k [] = before (continued v k []) (Some [])
behind v k (p ∷ ps) = before (continued v k p) (numerals ps)

abbrev joining : List ℕ → Option (List ℕ) → Option (List ℕ)
joining done None = None
joining done (Some ns) = Some (done ++ ns)

continued_start : (p : List ℕ) → continued 0 0 p ≡ numeral p
continued_start p = ap (λ n. cond (leb 1 n && leb n 7 && all_digits p) (Some (worth 0 p)) None) (zero-add (length p))

-- a digit more
continued_digit : (v k b : ℕ) (p : List ℕ) → 48 ≤ b → b ≤ 57 → continued v k (b ∷ p) ≡ continued (v * 10 + (b - 48)) (k + 1) p
continued_digit v k b p h q =
    let n : k + suc (length p) ≡ k + 1 + length p = omega arith in
    let d : is_digit b ≡ true = grind (arith, nat_tests) in
    ap (λ m. cond (leb 1 m && leb m 7 && (is_digit b && all_digits p)) (Some (worth (v * 10 + (b - 48)) p)) None) n
    ∙ ap (λ t. cond (leb 1 (k + 1 + length p) && leb (k + 1 + length p) 7 && (t && all_digits p)) (Some (worth (v * 10 + (b - 48)) p)) None) d

behind_digit : (v k b : ℕ) (ps : List (List ℕ)) → 48 ≤ b → b ≤ 57 → behind v k (onto b ps) ≡ behind (v * 10 + (b - 48)) (k + 1) ps
behind_digit v k b [] h q = ap (λ o. before o (Some [])) (continued_digit v k b [] h q)
behind_digit v k b (p ∷ ps) h q = ap (λ o. before o (numerals ps)) (continued_digit v k b p h q)

-- a part that is none, whatever follows in it
continued_not : (v k b : ℕ) (p : List ℕ) → (48 ≤ b → b ≤ 57 → k < 7 → ⊥) → continued v k (b ∷ p) ≡ None
continued_not v k b p h =
    cond-false (leb 1 (k + suc (length p)) && leb (k + suc (length p)) 7 && (is_digit b && all_digits p)) _ _ (grind (arith, nat_tests))

behind_not : (v k b : ℕ) (ps : List (List ℕ)) → (48 ≤ b → b ≤ 57 → k < 7 → ⊥) → behind v k (onto b ps) ≡ None
behind_not v k b [] h = ap (λ o. before o (Some [])) (continued_not v k b [] h)
behind_not v k b (p ∷ ps) h = ap (λ o. before o (numerals ps)) (continued_not v k b p h)

-- a part that ends
continued_end : (v k : ℕ) → 0 < k → k ≤ 7 → continued v k [] ≡ Some v
continued_end v k h q = cond-true (leb 1 (k + 0) && leb (k + 0) 7 && true) _ _ (grind (arith, nat_tests))

continued_none : (v k : ℕ) → k ≡ 0 → continued v k [] ≡ None
continued_none v k h = cond-false (leb 1 (k + 0) && leb (k + 0) 7 && true) _ _ (grind (arith, nat_tests))

-- there is a first part
behind_onto : (b : ℕ) (ps : List (List ℕ)) → behind 0 0 (onto b ps) ≡ numerals (onto b ps)
behind_onto b [] = ap (λ o. before o (Some [])) (continued_start (b ∷ []))
behind_onto b (p ∷ ps) = ap (λ o. before o (numerals ps)) (continued_start (b ∷ p))

pub parts_by : {Y : Type 0} (F G : List (List ℕ) → Y) → F ([] ∷ []) ≡ G ([] ∷ [])
    → ((ps : List (List ℕ)) → F ([] ∷ ps) ≡ G ([] ∷ ps)) → ((b : ℕ) (ps : List (List ℕ)) → F (onto b ps) ≡ G (onto b ps))
    → (bs : List ℕ) → F (parts bs) ≡ G (parts bs)
parts_by F G e f g [] = e
parts_by F G e f g (b ∷ bs) =
    elim (eqb b 32) as (λ t. F (cond t ([] ∷ parts bs) (onto b (parts bs))) ≡ G (cond t ([] ∷ parts bs) (onto b (parts bs))))
    [ true ↦ f (parts bs) | false ↦ g b (parts bs) ]

pub behind_start : (bs : List ℕ) → behind 0 0 (parts bs) ≡ numerals (parts bs)
behind_start bs = parts_by (behind 0 0) numerals refl (λ ps. ap (λ o. before o (numerals ps)) (continued_start [])) behind_onto bs

few_enough : (ns : List ℕ) → length ns ≤ 3 → up_to_three (Some ns) ≡ Some ns
few_enough ns h = cond-true (leb (length ns) 3) _ _ (le-leb (length ns) 3 h)

-- a third number behind two, and one more
too_many_of : (done : List ℕ) (v : ℕ) → length done ≡ 2 → (a : Option ℕ) (o : Option (List ℕ))
    → up_to_three (joining done (before (Some v) (before a o))) ≡ None
too_many_of done v h None o = refl
too_many_of done v h (Some n) None = refl
too_many_of done v h (Some n) (Some ns) =
    cond-false (leb (length (done ++ v ∷ n ∷ ns)) 3) _ _ (lt-leb (length (done ++ v ∷ n ∷ ns)) 3 (omega (arith, length-append done (v ∷ n ∷ ns))))

too_many_onto : (done : List ℕ) (v : ℕ) → length done ≡ 2 → (b : ℕ) (ps : List (List ℕ))
    → up_to_three (joining done (before (Some v) (numerals (onto b ps)))) ≡ None
too_many_onto done v h b [] = too_many_of done v h (numeral (b ∷ [])) (Some [])
too_many_onto done v h b (p ∷ ps) = too_many_of done v h (numeral (b ∷ p)) (numerals ps)

too_many : (done : List ℕ) (v : ℕ) → length done ≡ 2 → (bs : List ℕ) → up_to_three (joining done (before (Some v) (numerals (parts bs)))) ≡ None
too_many done v h bs =
    parts_by (λ ps. up_to_three (joining done (before (Some v) (numerals ps)))) (λ _. None)
    (too_many_of done v h (numeral []) (Some []))
    (λ ps. too_many_of done v h (numeral []) (numerals ps))
    (λ b ps. too_many_onto done v h b ps)
    bs

regroup : (done : List ℕ) (v : ℕ) (o : Option (List ℕ)) → joining (done ++ v ∷ []) o ≡ joining done (before (Some v) o)
regroup done v None = refl
regroup done v (Some ns) = ap Some (append_assoc done (v ∷ []) ns)

-- whether a byte goes on with the number that is being read
goes_on : (b k : ℕ) → ((48 ≤ b) × (b ≤ 57) × (k < 7)) ⊎ (48 ≤ b → b ≤ 57 → k < 7 → ⊥)
goes_on b k =
    elim (cases_lt b 48) [
      | inl h ↦ inr (λ p q r. omega arith)
      | inr h ↦ elim (cases_lt 57 b) [
        | inl g ↦ inr (λ p q r. omega arith)
        | inr g ↦ elim (cases_lt k 7) [ inl f ↦ inl (h, g, f) | inr f ↦ inr (λ p q r. omega arith) ]
      ]
    ]

abbrev Passed : List ℕ → List ℕ → ℕ → ℕ → Type 0
Passed bs done v k = pass done v k bs ≡ up_to_three (joining done (behind v k (parts bs)))

pass_end : (done : List ℕ) (v k : ℕ) → length done ≤ 2 → k ≤ 7 → Passed [] done v k
pass_end done v k h q =
    elim (cases_lt 0 k) [
      | inl g ↦ cond-true (ltb 0 k) _ _ (grind (arith, nat_tests))
          ∙ sym (ap (λ o. up_to_three (joining done (before o (Some [])))) (continued_end v k g q)
          ∙ few_enough (done ++ v ∷ []) (omega (arith, length_push done v)))
      | inr g ↦ cond-false (ltb 0 k) _ _ (grind (arith, nat_tests))
          ∙ sym (ap (λ o. up_to_three (joining done (before o (Some [])))) (continued_none v k (omega arith)))
    ]

-- what the parts are where a blank comes first, and where another byte does
at_blank : (done : List ℕ) (v k b : ℕ) (bs : List ℕ) → b ≡ 32
    → up_to_three (joining done (behind v k (parts (b ∷ bs)))) ≡ up_to_three (joining done (before (continued v k []) (numerals (parts bs))))
at_blank done v k b bs h =
    ap (λ ps. up_to_three (joining done (behind v k ps))) (cond-true (eqb b 32) ([] ∷ parts bs) (onto b (parts bs)) (eq-eqb b 32 h))

at_other : (done : List ℕ) (v k b : ℕ) (bs : List ℕ) → (b ≡ 32 → ⊥)
    → up_to_three (joining done (behind v k (parts (b ∷ bs)))) ≡ up_to_three (joining done (behind v k (onto b (parts bs))))
at_other done v k b bs h =
    ap (λ ps. up_to_three (joining done (behind v k ps))) (cond-false (eqb b 32) ([] ∷ parts bs) (onto b (parts bs)) (ne_eqb b 32 h))

pass_digit : (bs done : List ℕ) (v k b : ℕ) → 48 ≤ b → b ≤ 57 → k < 7
    → Passed bs done (v * 10 + (b - 48)) (k + 1) → Passed (b ∷ bs) done v k
pass_digit bs done v k b h g f r =
    cond-true (leb 48 b && leb b 57 && ltb k 7) _ _ (grind (arith, nat_tests)) ∙ r
    ∙ sym (at_other done v k b bs (λ e. omega arith) ∙ ap (λ o. up_to_three (joining done o)) (behind_digit v k b (parts bs) h g))

stuck : (bs done : List ℕ) (v k b : ℕ) → (48 ≤ b → b ≤ 57 → k < 7 → ⊥) → (b ≡ 32 → 0 < k → length done < 2 → ⊥)
    → pass done v k (b ∷ bs) ≡ None
stuck bs done v k b h g =
    cond-false (leb 48 b && leb b 57 && ltb k 7) _ _ (grind (arith, nat_tests))
    ∙ cond-false (eqb b 32 && ltb 0 k && ltb (length done) 2) _ _ (grind (arith, nat_tests))

pass_other : (bs done : List ℕ) (v k b : ℕ) → (48 ≤ b → b ≤ 57 → k < 7 → ⊥) → (b ≡ 32 → ⊥) → Passed (b ∷ bs) done v k
pass_other bs done v k b h g =
    stuck bs done v k b h (λ e _ _. g e)
    ∙ sym (at_other done v k b bs g ∙ ap (λ o. up_to_three (joining done o)) (behind_not v k b (parts bs) h))

pass_blank : (bs done : List ℕ) (v k b : ℕ) → length done ≤ 2 → k ≤ 7 → b ≡ 32
    → (length done < 2 → Passed bs (done ++ v ∷ []) 0 0) → Passed (b ∷ bs) done v k
pass_blank bs done v k b h q e r =
    elim (cases_lt 0 k) [
      | inl g ↦ elim (cases_lt (length done) 2) [
        | inl f ↦ cond-false (leb 48 b && leb b 57 && ltb k 7) _ _ (grind (arith, nat_tests))
            ∙ cond-true (eqb b 32 && ltb 0 k && ltb (length done) 2) _ _ (grind (arith, nat_tests))
            ∙ r f
            ∙ ap (λ o. up_to_three (joining (done ++ v ∷ []) o)) (behind_start bs)
            ∙ ap up_to_three (regroup done v (numerals (parts bs)))
            ∙ sym (at_blank done v k b bs e ∙ ap (λ o. up_to_three (joining done (before o (numerals (parts bs))))) (continued_end v k g q))
        | inr f ↦ stuck bs done v k b (λ x y z. omega arith) (λ x y z. omega arith)
            ∙ sym (at_blank done v k b bs e ∙ ap (λ o. up_to_three (joining done (before o (numerals (parts bs))))) (continued_end v k g q)
            ∙ too_many done v (omega arith) bs)
      ]
      | inr g ↦ stuck bs done v k b (λ x y z. omega arith) (λ x y z. omega arith)
          ∙ sym (at_blank done v k b bs e ∙ ap (λ o. up_to_three (joining done (before o (numerals (parts bs))))) (continued_none v k (omega arith)))
    ]

passed : (bs done : List ℕ) (v k : ℕ) → length done ≤ 2 → k ≤ 7 → Passed bs done v k
passed [] done v k h q = pass_end done v k h q
passed (b ∷ bs) done v k h q =
    elim (goes_on b k) [
      | inl g ↦ pass_digit bs done v k b g.0 g.1 g.2 (passed bs done (v * 10 + (b - 48)) (k + 1) h (omega arith))
      | inr g ↦ elim (cases_eq b 32) [
        | inl e ↦ pass_blank bs done v k b h q e (λ f. passed bs (done ++ v ∷ []) 0 0 (omega (arith, length_push done v)) (omega arith))
        | inr e ↦ pass_other bs done v k b g e
      ]
    ]

joining_none : (o : Option (List ℕ)) → joining [] o ≡ o
joining_none None = refl
joining_none (Some ns) = refl

pub pass_is : (bs : List ℕ) → pass [] 0 0 bs ≡ up_to_three (numerals (parts bs))
pass_is bs =
    passed bs [] 0 0 (omega arith) (omega arith)
    ∙ ap (λ o. up_to_three (joining [] o)) (behind_start bs)
    ∙ ap up_to_three (joining_none (numerals (parts bs)))
