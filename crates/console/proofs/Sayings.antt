-- A line says a command exactly when the command is found in its parts.
use Rattle.std.proofs.Common.{◌≡◌, ℕ, ◌+◌, ◌≤◌, true, false, cond, ◌&&◌, eqb, leb, List, [], ◌∷◌, ◌++◌, length, Some, None, Option, sym, refl, ap, ◌∙◌, subst, inl, inr, append-nil, arith}
use Rattle.std.specs.List.{join_with_byte}
use Rattle.std.proofs.lemmas.List.{length-append}
use Rattle.std.proofs.lemmas.List.Splits.{join_with_byte-slice_split}
use Rattle.std.proofs.lemmas.Bool.{cond-true, cond-false, cases_Bool, eqb-true, ne_eqb, le-leb, leb-true, and_parts}
use Rattle.console.specs.declared.command.Command.{Command}
use Rattle.console.specs.declared.command.Command.TheVariants.{Fix, Bar, WithdrawFix, WithdrawBar, Ask}
use Rattle.console.specs.Grammar.{onto, parts, is_digit, all_digits, worth, numeral, before, numerals, decided, asked, saying, sentence, command}
use Rattle.console.specs.Form.{behind_blanks, WithThree, WithTwo, Says}
use Rattle.console.proofs.Numbers.{cut_is}

none_some : {B : Type 0} (k : Command) → ◌≡◌ {A = Option Command} None (Some k) → B
none_some k e = let z : ◌≡◌ {A = ℕ} 0 1 = cc in absurd (omega arith)

-- the parts put together again are the line
abbrev together : List (List ℕ) → List ℕ
together [] = []
together (p ∷ ps) = p ++ behind_blanks ps

together_is : (ps : List (List ℕ)) → together ps ≡ join_with_byte 32 ps
together_is [] = refl
together_is (p ∷ []) = append-nil p
together_is (p ∷ q ∷ ps) = ap (λ t. p ++ 32 ∷ t) (together_is (q ∷ ps))

together_parts : (bs : List ℕ) → together (parts bs) ≡ bs
together_parts bs = together_is (parts bs) ∙ ap (join_with_byte 32) (sym (cut_is bs)) ∙ join_with_byte-slice_split 32 bs

-- one case of a letter, and the others
by_letter : (line : List ℕ) (c l : ℕ) (a k : Command) (o : Option Command) → cond (eqb c l) (Some a) o ≡ Some k
    → (c ≡ l → Says line a) → (o ≡ Some k → Says line k) → Says line k
by_letter line c l a k o e here there =
    elim (cases_Bool (eqb c l)) [
      | inl t ↦ let same : a ≡ k = cc (cond-true (eqb c l) (Some a) o t) in subst (Says line) same (here (eqb-true c l t))
      | inr t ↦ there (sym (cond-false (eqb c l) (Some a) o t) ∙ e)
    ]

record Three (c : ℕ) (x y z : Option ℕ) (k : Command) : Type 0 where
  a : ℕ
  b : ℕ
  d : ℕ
  x_is : x ≡ Some a
  y_is : y ≡ Some b
  z_is : z ≡ Some d
  so : decided c a b d ≡ Some k

three : (c : ℕ) (x y z : Option ℕ) (k : Command) → saying c (before x (before y (before z (Some [])))) ≡ Some k → Three c x y z k
three c None y z k e = none_some k e
three c (Some a) None z k e = none_some k e
three c (Some a) (Some b) None k e = none_some k e
three c (Some a) (Some b) (Some d) k e = record { a = a; b = b; d = d; x_is = refl; y_is = refl; z_is = refl; so = e }

record Two (c : ℕ) (x y : Option ℕ) (k : Command) : Type 0 where
  a : ℕ
  b : ℕ
  x_is : x ≡ Some a
  y_is : y ≡ Some b
  so : asked c a b ≡ Some k

two : (c : ℕ) (x y : Option ℕ) (k : Command) → saying c (before x (before y (Some []))) ≡ Some k → Two c x y k
two c None y k e = none_some k e
two c (Some a) None k e = none_some k e
two c (Some a) (Some b) k e = record { a = a; b = b; x_is = refl; y_is = refl; so = e }

one_not : (c : ℕ) (x : Option ℕ) → saying c (before x (Some [])) ≡ None
one_not c None = refl
one_not c (Some a) = refl

four_not : (c : ℕ) (x y z w : Option ℕ) (o : Option (List ℕ)) → saying c (before x (before y (before z (before w o)))) ≡ None
four_not c None y z w o = refl
four_not c (Some a) None z w o = refl
four_not c (Some a) (Some b) None w o = refl
four_not c (Some a) (Some b) (Some d) None o = refl
four_not c (Some a) (Some b) (Some d) (Some e) None = refl
four_not c (Some a) (Some b) (Some d) (Some e) (Some ns) =
    let ms = a ∷ b ∷ d ∷ e ∷ ns in
    cond-false (eqb (length ms) 3) _ _ (ne_eqb (length ms) 3 (λ h. omega arith)) ∙ cond-false (eqb (length ms) 2) _ _ (ne_eqb (length ms) 2 (λ h. omega arith))

with_letter : (line : List ℕ) (c l : ℕ) (ps : List (List ℕ)) → line ≡ c ∷ behind_blanks ps → c ≡ l → line ≡ l ∷ behind_blanks ps
with_letter line c l ps e h = e ∙ ap (λ x. x ∷ behind_blanks ps) h

three_says : (line p q s : List ℕ) (c : ℕ) (k : Command) → line ≡ c ∷ behind_blanks (p ∷ q ∷ s ∷ []) → Three c (numeral p) (numeral q) (numeral s) k → Says line k
three_says line p q s c k e t =
    let made : (l : ℕ) → c ≡ l → WithThree l line t.a t.b t.d = λ l h. record {
      first = p;
      second = q;
      third = s;
      first_says = t.x_is;
      second_says = t.y_is;
      third_says = t.z_is;
      line_is = with_letter line c l (p ∷ q ∷ s ∷ []) e h;
    } in
    by_letter line c 70 (Fix t.a t.b t.d) k _ t.so (made 70) (λ e1.
    by_letter line c 66 (Bar t.a t.b t.d) k _ e1 (made 66) (λ e2.
    by_letter line c 102 (WithdrawFix t.a t.b t.d) k _ e2 (made 102) (λ e3.
    by_letter line c 98 (WithdrawBar t.a t.b t.d) k _ e3 (made 98) (λ e4. none_some k e4))))

two_says : (line p q : List ℕ) (c : ℕ) (k : Command) → line ≡ c ∷ behind_blanks (p ∷ q ∷ []) → Two c (numeral p) (numeral q) k → Says line k
two_says line p q c k e t =
    by_letter line c 65 (Ask t.a t.b) k _ t.so
    (λ h. record { first = p; second = q; first_says = t.x_is; second_says = t.y_is; line_is = with_letter line c 65 (p ∷ q ∷ []) e h })
    (λ e1. none_some k e1)

saying_says : (line : List ℕ) (c : ℕ) (ps : List (List ℕ)) (k : Command) → line ≡ c ∷ behind_blanks ps → saying c (numerals ps) ≡ Some k → Says line k
saying_says line c [] k e h = none_some k h
saying_says line c (p ∷ []) k e h = none_some k (sym (one_not c (numeral p)) ∙ h)
saying_says line c (p ∷ q ∷ []) k e h = two_says line p q c k e (two c (numeral p) (numeral q) k h)
saying_says line c (p ∷ q ∷ s ∷ []) k e h = three_says line p q s c k e (three c (numeral p) (numeral q) (numeral s) k h)
saying_says line c (p ∷ q ∷ s ∷ u ∷ ps) k e h =
    none_some k (sym (four_not c (numeral p) (numeral q) (numeral s) (numeral u) (numerals ps)) ∙ h)

sentence_says : (line : List ℕ) (ps : List (List ℕ)) (k : Command) → line ≡ together ps → sentence ps ≡ Some k → Says line k
sentence_says line [] k e h = none_some k h
sentence_says line ([] ∷ ps) k e h = none_some k h
sentence_says line ((c ∷ []) ∷ ps) k e h = saying_says line c ps k e h
sentence_says line ((c ∷ d ∷ ds) ∷ ps) k e h = none_some k h

pub command_says : (line : List ℕ) (k : Command) → command line ≡ Some k → Says line k
command_says line k h =
    elim (cases_Bool (leb (length line) 40)) [
      | inl t ↦ sentence_says line (parts line) k (sym (together_parts line)) (sym (cond-true (leb (length line) 40) (sentence (parts line)) None t) ∙ h)
      | inr t ↦ none_some k (sym (cond-false (leb (length line) 40) (sentence (parts line)) None t) ∙ h)
    ]

-- the other way: a line that is written so is cut into the same parts
record Good (p : List ℕ) : Type 0 where
  short : length p ≤ 7
  digits : all_digits p ≡ true

good : (p : List ℕ) (n : ℕ) → numeral p ≡ Some n → Good p
good p n h =
    elim (cases_Bool (leb 1 (length p) && leb (length p) 7 && all_digits p)) [
      | inl t ↦ record {
        short = leb-true (length p) 7 (and_parts (leb 1 (length p)) (leb (length p) 7) (and_parts (leb 1 (length p) && leb (length p) 7) (all_digits p) t).0).1;
        digits = (and_parts (leb 1 (length p) && leb (length p) 7) (all_digits p) t).1;
      }
      | inr t ↦ let e : ◌≡◌ {A = Option ℕ} None (Some n) = sym (cond-false (leb 1 (length p) && leb (length p) 7 && all_digits p) (Some (worth 0 p)) None t) ∙ h in
          let z : ◌≡◌ {A = ℕ} 0 1 = cc in absurd (omega arith)
    ]

digit_not_blank : (b : ℕ) → is_digit b ≡ true → eqb b 32 ≡ false
digit_not_blank b h = ne_eqb b 32 (λ e. omega (arith, leb-true 48 b (and_parts (leb 48 b) (leb b 57) h).0))

parts_digits : (p bs : List ℕ) (q : List ℕ) (qs : List (List ℕ)) → all_digits p ≡ true → parts bs ≡ q ∷ qs → parts (p ++ bs) ≡ (p ++ q) ∷ qs
parts_digits [] bs q qs h e = e
parts_digits (b ∷ p) bs q qs h e =
    cond-false (eqb b 32) ([] ∷ parts (p ++ bs)) (onto b (parts (p ++ bs))) (digit_not_blank b (and_parts (is_digit b) (all_digits p) h).0)
    ∙ ap (onto b) (parts_digits p bs q qs (and_parts (is_digit b) (all_digits p) h).1 e)

abbrev AllGood : List (List ℕ) → Type 0
AllGood [] = Unit {0}
AllGood (p ∷ ps) = Good p × AllGood ps

-- numbers behind blanks, behind nothing
parts_blanks : (ps : List (List ℕ)) → AllGood ps → parts (behind_blanks ps) ≡ [] ∷ ps
parts_blanks [] g = refl
parts_blanks (p ∷ ps) g =
    ap (λ t. [] ∷ t) (parts_digits p (behind_blanks ps) [] ps g.0.digits (parts_blanks ps g.1) ∙ ap (λ t. t ∷ ps) (append-nil p))

written : (c : ℕ) (ps : List (List ℕ)) → eqb c 32 ≡ false → AllGood ps → sentence (parts (c ∷ behind_blanks ps)) ≡ saying c (numerals ps)
written c ps h g =
    ap sentence (cond-false (eqb c 32) ([] ∷ parts (behind_blanks ps)) (onto c (parts (behind_blanks ps))) h)
    ∙ ap (λ t. sentence (onto c t)) (parts_blanks ps g)

long_as : (p rest : List ℕ) (n : ℕ) → Good p → length rest ≤ n → length (32 ∷ (p ++ rest)) ≤ n + 8
long_as p rest n g h = omega (arith, length-append p rest, g.short)

three_read : (l : ℕ) (line : List ℕ) (a b d : ℕ) → eqb l 32 ≡ false → WithThree l line a b d → command line ≡ decided l a b d
three_read l line a b d h w =
    let p = w.first in
    let q = w.second in
    let s = w.third in
    let gp = good p a w.first_says in
    let gq = good q b w.second_says in
    let gs = good s d w.third_says in
    let n1 = long_as s [] 0 gs (omega arith) in
    let n2 = long_as q (behind_blanks (s ∷ [])) (0 + 8) gq n1 in
    let n3 = long_as p (behind_blanks (q ∷ s ∷ [])) (0 + 8 + 8) gp n2 in
    let n4 : length (l ∷ behind_blanks (p ∷ q ∷ s ∷ [])) ≤ 40 = omega arith in
    ap command w.line_is
    ∙ cond-true (leb (length (l ∷ behind_blanks (p ∷ q ∷ s ∷ []))) 40) _ _ (le-leb (length (l ∷ behind_blanks (p ∷ q ∷ s ∷ []))) 40 n4)
    ∙ written l (p ∷ q ∷ s ∷ []) h (gp, (gq, (gs, tt)))
    ∙ ap (λ x. saying l (before x (before (numeral q) (before (numeral s) (Some []))))) w.first_says
    ∙ ap (λ x. saying l (before (Some a) (before x (before (numeral s) (Some []))))) w.second_says
    ∙ ap (λ x. saying l (before (Some a) (before (Some b) (before x (Some []))))) w.third_says

two_read : (l : ℕ) (line : List ℕ) (a b : ℕ) → eqb l 32 ≡ false → WithTwo l line a b → command line ≡ asked l a b
two_read l line a b h w =
    let p = w.first in
    let q = w.second in
    let gp = good p a w.first_says in
    let gq = good q b w.second_says in
    let n1 = long_as q [] 0 gq (omega arith) in
    let n2 = long_as p (behind_blanks (q ∷ [])) (0 + 8) gp n1 in
    let n3 : length (l ∷ behind_blanks (p ∷ q ∷ [])) ≤ 40 = omega arith in
    ap command w.line_is
    ∙ cond-true (leb (length (l ∷ behind_blanks (p ∷ q ∷ []))) 40) _ _ (le-leb (length (l ∷ behind_blanks (p ∷ q ∷ []))) 40 n3)
    ∙ written l (p ∷ q ∷ []) h (gp, (gq, tt))
    ∙ ap (λ x. saying l (before x (before (numeral q) (Some [])))) w.first_says
    ∙ ap (λ x. saying l (before (Some a) (before x (Some [])))) w.second_says

pub says_command : (line : List ℕ) (k : Command) → Says line k → command line ≡ Some k
says_command line (Fix a b d) w = three_read 70 line a b d refl w
says_command line (Bar a b d) w = three_read 66 line a b d refl w
says_command line (WithdrawFix a b d) w = three_read 102 line a b d refl w
says_command line (WithdrawBar a b d) w = three_read 98 line a b d refl w
says_command line (Ask a b) w = two_read 65 line a b refl w

-- an answer that is the command of the line
abbrev pub Told : List ℕ → Option Command → Type 0
Told line r = (k : Command) → (r ≡ Some k → Says line k) × (Says line k → r ≡ Some k)

pub told : (line : List ℕ) (r : Option Command) → r ≡ command line → Told line r
told line r e k = ((λ h. command_says line k (sym e ∙ h)), (λ w. e ∙ says_command line k w))
