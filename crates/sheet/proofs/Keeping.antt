-- A sheet keeps what stands, call after call.
use Rattle.std.proofs.Common.{◌≡◌, ℕ, ◌/◌, ◌%◌, ◌^◌, ◌<◌, ◌≤◌, Bool, true, false, not, ◌&&◌, ◌||◌, eqb, ltb, List, [], ◌∷◌, length, get_or, set, replicate, Ok, Err, Result, sym, refl, ap, ◌∙◌, subst, inl, inr, ⊎_elim, arith, get_or-set_other, get_or-set_same, ltb-true, eq-eqb, eqb-true}
use lib.Bits.{bit_or, bit_xor}
use borrow.Author.Tests.{clash}
use Rattle.std.proofs.lemmas.List.{get_or-replicate}
use Rattle.std.proofs.lemmas.Bool.{and_parts, and_from, or_left, or_right, cases_eq, not-true, both_ways, not_from_false, false_from_ne_true}
use Rattle.questions.specs.declared.question.Question.{Question}
use Rattle.grammar.specs.Contents.{Contents}
use Rattle.book.specs.Books.{contents}
use Rattle.book.specs.declared.book.Book.{Book}
use Rattle.grammar.proofs.Validity.{valid_out}
use Rattle.values.specs.Members.{In}
use Rattle.values.proofs.Digits.{in_either, in_or, in_one, in_one_only, in_zero, in_out, out_in}
use Rattle.sheet.specs.declared.decision.Kind.{Kind}
use Rattle.sheet.specs.declared.decision.Kind.TheVariants.{Fix, Bar}
use Rattle.sheet.specs.declared.decision.Decision.{Decision}
use Rattle.sheet.specs.Decisions.{place_of, stands, is_person, ask, known, makes, withdraws, made, withdrawn}
use Rattle.sheet.specs.Named.{IsNamed, is_standing, with_made, with_withdrawn}
use Rattle.sheet.specs.Runs as runs
use Rattle.sheet.specs.Runs.{Call, same, is_same_kind, is_known, standing, Keeps}
use Rattle.sheet.proofs.Unions.{person_cases}

agree : (a b : Bool) → (a ≡ true → b ≡ true) → (b ≡ true → a ≡ true) → a ≡ b
agree true true f g = refl
agree true false f g = absurd (clash (f refl))
agree false true f g = absurd (clash (g refl))
agree false false f g = refl

or_cases : {P : Type 0} (a b : Bool) → (a || b) ≡ true → (a ≡ true → P) → (b ≡ true → P) → P
or_cases true b e f g = f refl
or_cases false b e f g = g e

kind_same : (k : Kind) → is_same_kind k k ≡ true
kind_same Fix = refl
kind_same Bar = refl

same_kind : (k j : Kind) → is_same_kind k j ≡ true → k ≡ j
same_kind Fix Fix e = refl
same_kind Fix Bar e = absurd (clash e)
same_kind Bar Fix e = absurd (clash e)
same_kind Bar Bar e = refl

between : (p : ℕ) → is_person p ≡ true → (1 ≤ p) × (p ≤ 2)
between p P = person_cases p P (λ e. (omega arith, omega arith)) (λ e. (omega arith, omega arith))

-- two places are the same only of one person, kind and option
one_place : (p q : ℕ) (k j : Kind) (x y : ℕ) → is_person p ≡ true → is_person q ≡ true → x < 24 → y < 24 → place_of p k x ≡ place_of q j y → (p ≡ q) × (k ≡ j) × (x ≡ y)
one_place p q k j x y P Q X Y e = go k j (between p P) (between q Q) e
  where
    go : (k j : Kind) → (1 ≤ p) × (p ≤ 2) → (1 ≤ q) × (q ≤ 2) → place_of p k x ≡ place_of q j y → (p ≡ q) × (k ≡ j) × (x ≡ y)
    go Fix Fix a b e = (omega arith, refl, omega arith)
    go Fix Bar a b e = absurd (omega arith)
    go Bar Fix a b e = absurd (omega arith)
    go Bar Bar a b e = (omega arith, refl, omega arith)

place_inside : (p : ℕ) (k : Kind) (x : ℕ) → is_person p ≡ true → x < 24 → place_of p k x < 96
place_inside p Fix x P X = let b = between p P in omega arith
place_inside p Bar x P X = let b = between p P in omega arith

-- the same pair
same_so : (q : ℕ) (j : Kind) (y w p : ℕ) (k : Kind) (x v : ℕ) → same q j y w p k x v ≡ true → (p ≡ q) × (k ≡ j) × (x ≡ y) × (v ≡ w)
same_so q j y w p k x v e =
    let a = and_parts (eqb p q) _ e in
    let b = and_parts (is_same_kind k j) _ a.1 in
    let d = and_parts (eqb x y) _ b.1 in
    (eqb-true p q a.0, same_kind k j b.0, eqb-true x y d.0, eqb-true v w d.1)

so_same : (q : ℕ) (j : Kind) (y w p : ℕ) (k : Kind) (x v : ℕ) → p ≡ q → k ≡ j → x ≡ y → v ≡ w → same q j y w p k x v ≡ true
so_same q j y w p k x v a b d e =
    and_from _ _ (eq-eqb p q a) (and_from _ _ (subst (λ i. is_same_kind k i ≡ true) b (kind_same k)) (and_from _ _ (eq-eqb x y d) (eq-eqb v w e)))

-- only what is known stands
standing_known : (c : Contents) (calls : List Call) (p : ℕ) (k : Kind) (x v : ℕ) → standing c calls p k x v ≡ true → is_known c p x v ≡ true
standing_known c [] p k x v e = absurd (clash e)
standing_known c (runs.making q j y w ∷ calls) p k x v e =
    or_cases (is_known c q y w && same q j y w p k x v) _ e
    (λ both.
    let b = and_parts (is_known c q y w) _ both in
    let s = same_so q j y w p k x v b.1 in
    (λ t. is_known c (s.0 t) (s.2 t) (s.3 t)) ∙ b.0)
    (λ old. standing_known c calls p k x v old)
standing_known c (runs.withdrawing q j y w ∷ calls) p k x v e = standing_known c calls p k x v (and_parts (not (same q j y w p k x v)) _ e).1
standing_known c (runs.asking ∷ calls) p k x v e = standing_known c calls p k x v e

module _ (c : Contents) (few : length c.sizes ≤ 24) (calls : List Call) (sets : List ℕ) (long : length sets ≡ 96) (so : Keeps c calls sets) (q : ℕ) (j : Kind) (y w : ℕ) where
  stands_same : (p : ℕ) (k : Kind) (x v : ℕ) → p ≡ q → k ≡ j → x ≡ y → v ≡ w → stands sets p k x v ≡ stands sets q j y w
  stands_same p k x v a b d e = (λ t. stands sets (a t) (b t) (d t) (e t))

  -- a call that changes nothing since its pair stands already, or is unknown
  keeps_refused : (is_known c q y w ≡ true → stands sets q j y w ≡ true) → Keeps c (runs.making q j y w ∷ calls) sets
  keeps_refused had p k x v P X =
      agree _ _
      (λ h. or_right _ _ (sym (so p k x v P X) ∙ h))
      (λ h. or_cases (is_known c q y w && same q j y w p k x v) _ h
      (λ both. let b = and_parts (is_known c q y w) _ both in let s = same_so q j y w p k x v b.1 in stands_same p k x v s.0 s.1 s.2 s.3 ∙ had b.0)
      (λ old. so p k x v P X ∙ old))

  keeps_made : is_person q ≡ true → y < 24 → is_known c q y w ≡ true → Keeps c (runs.making q j y w ∷ calls) (set sets (place_of q j y) (bit_or (get_or sets (place_of q j y) 0) (2 ^ w)))
  keeps_made Q Y K p k x v P X =
      let at = place_of q j y in
      let s = get_or sets at 0 in
      let new = set sets at (bit_or s (2 ^ w)) in
      let lt : at < length sets = omega (arith, place_inside q j y Q Y) in
      ⊎_elim
      (λ e.
      let one = one_place p q k j x y P Q X Y e in
      let here : get_or new (place_of p k x) 0 ≡ bit_or s (2 ^ w) = ap (λ n. get_or new n 0) e ∙ get_or-set_same sets at (bit_or s (2 ^ w)) 0 lt in
      let old : s ≡ get_or sets (place_of p k x) 0 = ap (λ n. get_or sets n 0) (sym e) in
      agree _ _
      (λ h. ⊎_elim
      (λ i. or_right _ _ (sym (so p k x v P X) ∙ eq-eqb _ 1 (subst (λ n. In n v) old i)))
      (λ i. or_left _ _ (and_from _ _ K (so_same q j y w p k x v one.0 one.1 one.2 (in_one_only w v i))))
      (in_either s (2 ^ w) v (subst (λ n. In n v) here (eqb-true _ 1 h))))
      (λ h. eq-eqb _ 1 (subst (λ n. In n v) (sym here) (in_or s (2 ^ w) v (or_cases (is_known c q y w && same q j y w p k x v) _ h
      (λ both. inr (subst (In (2 ^ w)) (sym (same_so q j y w p k x v (and_parts (is_known c q y w) _ both).1).3) (in_one w)))
      (λ o. inl (subst (λ n. In n v) (sym old) (eqb-true _ 1 (so p k x v P X ∙ o)))))))))
      (λ ne.
      let there : get_or new (place_of p k x) 0 ≡ get_or sets (place_of p k x) 0 = get_or-set_other sets at (place_of p k x) (bit_or s (2 ^ w)) 0 ne in
      agree _ _
      (λ h. or_right _ _ (sym (so p k x v P X) ∙ ap (λ n. eqb (n / 2 ^ v % 2) 1) (sym there) ∙ h))
      (λ h. or_cases (is_known c q y w && same q j y w p k x v) _ h
      (λ both. let s = same_so q j y w p k x v (and_parts (is_known c q y w) _ both).1 in absurd (ne (λ t. place_of (s.0 t) (s.1 t) (s.2 t))))
      (λ o. ap (λ n. eqb (n / 2 ^ v % 2) 1) there ∙ so p k x v P X ∙ o)))
      (cases_eq (place_of p k x) at)

  keeps_withdrawn : is_person q ≡ true → y < 24 → stands sets q j y w ≡ true → Keeps c (runs.withdrawing q j y w ∷ calls) (set sets (place_of q j y) (bit_xor (get_or sets (place_of q j y) 0) (2 ^ w)))
  keeps_withdrawn Q Y had p k x v P X =
      let at = place_of q j y in
      let s = get_or sets at 0 in
      let new = set sets at (bit_xor s (2 ^ w)) in
      let lt : at < length sets = omega (arith, place_inside q j y Q Y) in
      let w-in : In s w = eqb-true _ 1 had in
      ⊎_elim
      (λ e.
      let one = one_place p q k j x y P Q X Y e in
      let here : get_or new (place_of p k x) 0 ≡ bit_xor s (2 ^ w) = ap (λ n. get_or new n 0) e ∙ get_or-set_same sets at (bit_xor s (2 ^ w)) 0 lt in
      let old : s ≡ get_or sets (place_of p k x) 0 = ap (λ n. get_or sets n 0) (sym e) in
      agree _ _
      (λ h. let o = out_in s w v w-in (subst (λ n. In n v) here (eqb-true _ 1 h)) in
      and_from _ _ (not_from_false _ (false_from_ne_true (same q j y w p k x v) (λ i. o.1 (same_so q j y w p k x v i).3))) (sym (so p k x v P X) ∙ eq-eqb _ 1 (subst (λ n. In n v) old o.0)))
      (λ h. let b = and_parts (not (same q j y w p k x v)) _ h in
      eq-eqb _ 1 (subst (λ n. In n v) (sym here) (in_out s w v (subst (λ n. In n v) (sym old) (eqb-true _ 1 (so p k x v P X ∙ b.1)))
      (λ i. both_ways _ (not-true _ b.0) (so_same q j y w p k x v one.0 one.1 one.2 i))))))
      (λ ne.
      let there : get_or new (place_of p k x) 0 ≡ get_or sets (place_of p k x) 0 = get_or-set_other sets at (place_of p k x) (bit_xor s (2 ^ w)) 0 ne in
      let apart : not (same q j y w p k x v) ≡ true = not_from_false _ (false_from_ne_true (same q j y w p k x v) (λ i. let s = same_so q j y w p k x v i in ne (λ t. place_of (s.0 t) (s.1 t) (s.2 t)))) in
      agree _ _
      (λ h. and_from _ _ apart (sym (so p k x v P X) ∙ ap (λ n. eqb (n / 2 ^ v % 2) 1) (sym there) ∙ h))
      (λ h. ap (λ n. eqb (n / 2 ^ v % 2) 1) there ∙ so p k x v P X ∙ (and_parts (not (same q j y w p k x v)) _ h).1))
      (cases_eq (place_of p k x) at)

  keeps_standing : (is_known c q y w ≡ true → stands sets q j y w ≡ false) → Keeps c (runs.withdrawing q j y w ∷ calls) sets
  keeps_standing had p k x v P X =
      agree _ _
      (λ h. and_from _ _
      (not_from_false _ (false_from_ne_true (same q j y w p k x v) (λ i. let s = same_so q j y w p k x v i in
      let known = subst (λ n. is_known c q y n ≡ true) s.3 (subst (λ n. is_known c q n v ≡ true) s.2 (subst (λ n. is_known c n x v ≡ true) s.0 (standing_known c calls p k x v (sym (so p k x v P X) ∙ h)))) in
      both_ways _ (had known) (sym (stands_same p k x v s.0 s.1 s.2 s.3) ∙ h))))
      (sym (so p k x v P X) ∙ h))
      (λ h. so p k x v P X ∙ (and_parts (not (same q j y w p k x v)) _ h).1)

  -- both calls, by what they answer
  module _ (Known-is : is_known c q y w ≡ true → (is_person q ≡ true) × (y < 24)) where
    pub keeps_makes : (r : Result (Unit {0}) Question) → r ≡ makes c sets q j y w → Keeps c (runs.making q j y w ∷ calls) (made r sets q j y w)
    keeps_makes r is = go (is_person q) (ltb y (length c.sizes)) (ltb w (get_or c.sizes y 0)) (stands sets q j y w) refl refl refl refl is
      where
        go : (a b d e : Bool) → is_person q ≡ a → ltb y (length c.sizes) ≡ b → ltb w (get_or c.sizes y 0) ≡ d → stands sets q j y w ≡ e
            → r ≡ ask a Question.Person (ask b Question.OptionKnown (ask d Question.ValueKnown (ask (not e) Question.NotStanding (Ok tt))))
            → Keeps c (runs.making q j y w ∷ calls) (made r sets q j y w)
        go false b d e A B D E is = subst (λ r. Keeps c (runs.making q j y w ∷ calls) (made r sets q j y w)) (sym is) (keeps_refused (λ k. absurd (both_ways _ A (and_parts (is_person q) _ k).0)))
        go true false d e A B D E is = subst (λ r. Keeps c (runs.making q j y w ∷ calls) (made r sets q j y w)) (sym is) (keeps_refused (λ k. absurd (both_ways _ B (and_parts (ltb y (length c.sizes)) _ (and_parts (is_person q) _ k).1).0)))
        go true true false e A B D E is = subst (λ r. Keeps c (runs.making q j y w ∷ calls) (made r sets q j y w)) (sym is) (keeps_refused (λ k. absurd (both_ways _ D (and_parts (ltb y (length c.sizes)) _ (and_parts (is_person q) _ k).1).1)))
        go true true true true A B D E is = subst (λ r. Keeps c (runs.making q j y w ∷ calls) (made r sets q j y w)) (sym is) (keeps_refused (λ k. E))
        go true true true false A B D E is =
            let k = and_from (is_person q) _ A (and_from (ltb y (length c.sizes)) _ B D) in
            subst (λ r. Keeps c (runs.making q j y w ∷ calls) (made r sets q j y w)) (sym is) (keeps_made (Known-is k).0 (Known-is k).1 k)

    pub keeps_withdraws : (r : Result (Unit {0}) Question) → r ≡ withdraws c sets q j y w → Keeps c (runs.withdrawing q j y w ∷ calls) (withdrawn r sets q j y w)
    keeps_withdraws r is = go (is_person q) (ltb y (length c.sizes)) (ltb w (get_or c.sizes y 0)) (stands sets q j y w) refl refl refl refl is
      where
        go : (a b d e : Bool) → is_person q ≡ a → ltb y (length c.sizes) ≡ b → ltb w (get_or c.sizes y 0) ≡ d → stands sets q j y w ≡ e
            → r ≡ ask a Question.Person (ask b Question.OptionKnown (ask d Question.ValueKnown (ask e Question.Standing (Ok tt))))
            → Keeps c (runs.withdrawing q j y w ∷ calls) (withdrawn r sets q j y w)
        go false b d e A B D E is = subst (λ r. Keeps c (runs.withdrawing q j y w ∷ calls) (withdrawn r sets q j y w)) (sym is) (keeps_standing (λ k. absurd (both_ways _ A (and_parts (is_person q) _ k).0)))
        go true false d e A B D E is = subst (λ r. Keeps c (runs.withdrawing q j y w ∷ calls) (withdrawn r sets q j y w)) (sym is) (keeps_standing (λ k. absurd (both_ways _ B (and_parts (ltb y (length c.sizes)) _ (and_parts (is_person q) _ k).1).0)))
        go true true false e A B D E is = subst (λ r. Keeps c (runs.withdrawing q j y w ∷ calls) (withdrawn r sets q j y w)) (sym is) (keeps_standing (λ k. absurd (both_ways _ D (and_parts (ltb y (length c.sizes)) _ (and_parts (is_person q) _ k).1).1)))
        go true true true false A B D E is = subst (λ r. Keeps c (runs.withdrawing q j y w ∷ calls) (withdrawn r sets q j y w)) (sym is) (keeps_standing (λ k. E))
        go true true true true A B D E is =
            let k = and_from (is_person q) _ A (and_from (ltb y (length c.sizes)) _ B D) in
            subst (λ r. Keeps c (runs.withdrawing q j y w ∷ calls) (withdrawn r sets q j y w)) (sym is) (keeps_withdrawn (Known-is k).0 (Known-is k).1 E)

-- on a new sheet nothing stands
pub keeps_new : (c : Contents) → Keeps c [] (replicate 96 0)
keeps_new c p k x v P X =
    let zeros : get_or (replicate 96 0) (place_of p k x) 0 ≡ 0 = get_or-replicate 96 (place_of p k x) 0 0 (place_inside p k x P X) in
    agree _ _ (λ h. absurd (in_zero v (subst (λ n. In n v) zeros (eqb-true _ 1 h)))) (λ h. absurd (clash h))

pub known_parts : (c : Contents) → length c.sizes ≤ 24 → (q y w : ℕ) → is_known c q y w ≡ true → (is_person q ≡ true) × (y < 24)
known_parts c few q y w k =
    let a = and_parts (is_person q) _ k in
    let lt = ltb-true y (length c.sizes) (and_parts (ltb y (length c.sizes)) _ a.1).0 in
    (a.0, omega arith)

-- the same of a read book, by what a call was told of the decision that it names
module _ (b : Book) (sets : List ℕ) (long : length sets ≡ 96) (q : ℕ) (j : Kind) (y w : ℕ) where
  few : length (contents b).sizes ≤ 24
  few = (valid_out (contents b) b.valid).few

  -- a question was answered no
  module _ (e : Question) (asked : (then : Result (Unit {0}) Question) → known (contents b) q y w then ≡ Err e) (calls : List Call) (so : Keeps (contents b) calls sets) where
    pub keeps_unmade : Keeps (contents b) (runs.making q j y w ∷ calls) sets
    keeps_unmade = keeps_makes (contents b) few calls sets long so q j y w (known_parts (contents b) few q y w) (Err e) (sym (asked _))

    pub keeps_unwithdrawn : Keeps (contents b) (runs.withdrawing q j y w ∷ calls) sets
    keeps_unwithdrawn = keeps_withdraws (contents b) few calls sets long so q j y w (known_parts (contents b) few q y w) (Err e) (sym (asked _))

  -- the decision is this
  module _ (d : Decision) (asked : (then : Result (Unit {0}) Question) → IsNamed q j y w d × (known (contents b) q y w then ≡ then)) (r : Result (Unit {0}) Question) (after : List ℕ) where
    named : IsNamed q j y w d
    named = (asked (Ok tt)).0

    pub made_named : after ≡ with_made r sets d → after ≡ made r sets q j y w
    made_named e = e ∙ (λ t. made r sets (named.by t) (named.of t) (named.on t) (named.about t))

    pub withdrawn_named : after ≡ with_withdrawn r sets d → after ≡ withdrawn r sets q j y w
    withdrawn_named e = e ∙ (λ t. withdrawn r sets (named.by t) (named.of t) (named.on t) (named.about t))

    pub keeps_made_named : r ≡ ask (not (is_standing sets d)) Question.NotStanding (Ok tt) → after ≡ with_made r sets d → (calls : List Call) → Keeps (contents b) calls sets → Keeps (contents b) (runs.making q j y w ∷ calls) after
    keeps_made_named e f calls so = subst (Keeps (contents b) (runs.making q j y w ∷ calls)) (sym (made_named f)) (keeps_makes (contents b) few calls sets long so q j y w (known_parts (contents b) few q y w) r
        (e ∙ (λ t. ask (not (stands sets (named.by t) (named.of t) (named.on t) (named.about t))) Question.NotStanding (Ok tt)) ∙ sym (asked _).1))

    pub keeps_withdrawn_named : r ≡ ask (is_standing sets d) Question.Standing (Ok tt) → after ≡ with_withdrawn r sets d → (calls : List Call) → Keeps (contents b) calls sets → Keeps (contents b) (runs.withdrawing q j y w ∷ calls) after
    keeps_withdrawn_named e f calls so = subst (Keeps (contents b) (runs.withdrawing q j y w ∷ calls)) (sym (withdrawn_named f)) (keeps_withdraws (contents b) few calls sets long so q j y w (known_parts (contents b) few q y w) r
        (e ∙ (λ t. ask (stands sets (named.by t) (named.of t) (named.on t) (named.about t)) Question.Standing (Ok tt)) ∙ sym (asked _).1))
