-- A fit that meets a box, changed at options that no table binds, lies inside the sets of the box.
use Rattle.std.proofs.Common.{◌≡◌, ℕ, zero, suc, ◌/◌, ◌%◌, ◌^◌, ◌<◌, Bool, true, false, cond, ◌⊎◌, List, [], ◌∷◌, map, length, get_or, sym, refl, ap, ◌∙◌, subst, ap₂, inl, inr, mod-lt, arith, pow_pos}
use lib.Count.{count_trailing_zeros}
use Rattle.std.specs.List.{range_with_len}
use Rattle.std.proofs.lemmas.List.FromFn.{length-map-range_with_len, get_or-map-range_with_len}
use Rattle.std.proofs.ByRecursion.{All-get_or, All-from_get_or}
use Rattle.std.proofs.lemmas.List.{ext_get_or}
use Rattle.std.proofs.lemmas.Bool.{cases_lt, cases_eq}
use Rattle.std.proofs.lemmas.Bool.Decides.{Decides-eqb}
use Rattle.grammar.specs.Contents.{Table, Contents, Listed, on_scope, Fit, ValidTable, Valid}
use Rattle.values.specs.Members.{In}
use Rattle.propagate.specs.Sets.{sets_of}
use Rattle.propagate.specs.Support.{is_in}
use Rattle.propagate.specs.Propagation.{Propagated}
use Rattle.propagate.specs.Laws.{Within}
use Rattle.values.proofs.Digits.{in_mod, trailing_member}
use Rattle.propagate.proofs.Fits.{live_on}
use Rattle.reduce.specs.Universal.{Universal, Free}
use Rattle.reduce.specs.Boxes.{LeftOut, BoxOf, Meets}
use Rattle.reduce.specs.Laws.{NonEmpty, HasFit, OneBox, InsideMeets, DeadBox, EqualBoxes}

-- ---- whether a row is listed

head_is : (v w : ℕ) (a b : List ℕ) → ◌≡◌ {A = List ℕ} (v ∷ a) (w ∷ b) → v ≡ w
head_is v w a b e = cc

tail_is : (v w : ℕ) (a b : List ℕ) → ◌≡◌ {A = List ℕ} (v ∷ a) (w ∷ b) → a ≡ b
tail_is v w a b e = cc

cases_row : (a b : List ℕ) → (a ≡ b) ⊎ (a ≡ b → ⊥)
cases_row [] [] = inl refl
cases_row [] (w ∷ b) = inr (λ e. let z : ◌≡◌ {A = ℕ} 0 1 = cc in omega arith)
cases_row (v ∷ a) [] = inr (λ e. let z : ◌≡◌ {A = ℕ} 0 1 = cc in omega arith)
cases_row (v ∷ a) (w ∷ b) = elim (cases_eq v w) [
  | inl e ↦ elim (cases_row a b) [ inl f ↦ inl (ap₂ (λ x xs. x ∷ xs) e f) | inr n ↦ inr (λ f. n (tail_is v w a b f)) ]
  | inr n ↦ inr (λ f. n (head_is v w a b f))
]

cases_listed : (rows : List (List ℕ)) (row : List ℕ) → Listed rows row ⊎ (Listed rows row → ⊥)
cases_listed [] row = inr (λ h. omega (arith, h.1))
cases_listed (r ∷ rows) row = elim (cases_row r row) [
  | inl e ↦ inl (0, omega arith, e)
  | inr n ↦ elim (cases_listed rows row) [
    | inl h ↦ inl (suc h.0, omega (arith, h.1), h.2)
    | inr m ↦ inr (λ h. go n m h.0 h.1 h.2)
  ]
]
  where
    go : (r ≡ row → ⊥) → (Listed rows row → ⊥) → (i : ℕ) → i < length (r ∷ rows) → get_or (r ∷ rows) i [] ≡ row → ⊥
    go n m zero l e = n e
    go n m (suc i) l e = m (i, omega arith, e)

-- ---- the change

-- the value that was given, where the set has it, and else the lowest of the set
abbrev instead : ℕ → ℕ → ℕ → ℕ
instead s k v = cond (is_in s v) v (count_trailing_zeros k s)

instead_in : (s k v : ℕ) → s < 2 ^ k → 0 < s → In s (instead s k v)
instead_in s k v h p = go (is_in s v) refl
  where
    go : (b : Bool) → is_in s v ≡ b → In s (cond b v (count_trailing_zeros k s))
    go true e = (Decides-eqb _ 1).0 e
    go false e = trailing_member k s h p

instead_same : (s k v : ℕ) → In s v → instead s k v ≡ v
instead_same s k v h = ap (λ b. cond b v (count_trailing_zeros k s)) ((Decides-eqb _ 1).1 h)

abbrev blank : Table
blank = record { scope = []; rows = [] }

module _ (c : Contents) (ok : Valid c) (array noted : List ℕ) (some : NonEmpty c array) (of : BoxOf c array noted) (values : List ℕ) (fit : Fit c values) (meets : Meets noted values) where
  abbrev new : ℕ → ℕ
  new x = instead (sets_of c array x) (get_or c.sizes x 0) (get_or values x 0)

  abbrev changed : List ℕ
  changed = map (λ x. instead (sets_of c array x) (get_or c.sizes x 0) (get_or values x 0)) (range_with_len 0 (length c.sizes))

  changed_at : (x : ℕ) → x < length c.sizes → get_or changed x 0 ≡ new x
  changed_at x l = get_or-map-range_with_len (λ x. instead (sets_of c array x) (get_or c.sizes x 0) (get_or values x 0)) 0 (length c.sizes) x x 0 l (omega arith)

  changed_in : Within c array changed
  changed_in x l =
      subst (In (sets_of c array x)) (sym (changed_at x l))
      (instead_in (sets_of c array x) (get_or c.sizes x 0) (get_or values x 0) (mod-lt (get_or array x 0) (pow_pos (get_or c.sizes x 0))) (some x l))

  -- an option whose value has to change is left out of the box, and not as whole
  must_be_free : (x : ℕ) → x < length c.sizes → (In (sets_of c array x) (get_or values x 0) → ⊥) → (Free (sets_of c array) c.tables x → ⊥) → ⊥
  must_be_free x l out bound =
      let not-out : LeftOut c array x → ⊥ = λ h. elim h [ inl w ↦ out (w (get_or values x 0) (fit.within x l)) | inr f ↦ bound f ] in
      let e = of.recorded x l not-out in
      out (subst (λ s. In s (get_or values x 0)) e (meets x (omega (arith, e, some x l))))

  listed_at : (i : ℕ) → i < length c.tables → Listed (get_or c.tables i blank).rows (on_scope changed (get_or c.tables i blank).scope)
  listed_at i l = elim (cases_listed t.rows (on_scope changed t.scope)) [ inl h ↦ h | inr not ↦ absurd (not (subst (Listed t.rows) (sym (same not t.scope known (λ j m. (j, m, refl)))) (All-get_or (λ t. Listed t.rows (on_scope values t.scope)) c.tables i blank l fit.listed))) ]
    where
      t : Table
      t = get_or c.tables i blank

      known : (j : ℕ) → j < length t.scope → get_or t.scope j 0 < length c.sizes
      known = (All-get_or (ValidTable c.sizes) c.tables i blank l ok.tables).known

      same : (Listed t.rows (on_scope changed t.scope) → ⊥) → (scope : List ℕ) → ((j : ℕ) → j < length scope → get_or scope j 0 < length c.sizes)
          → ((j : ℕ) → j < length scope → (k : ℕ) × (k < length t.scope) × (get_or t.scope k 0 ≡ get_or scope j 0)) → on_scope changed scope ≡ on_scope values scope
      same not [] low in' = refl
      same not (x ∷ scope) low in' =
          ap₂ (λ v vs. v ∷ vs)
          (changed_at x (low 0 (omega arith)) ∙ elim (cases_eq (sets_of c array x / 2 ^ get_or values x 0 % 2) 1) [
            | inl h ↦ instead_same (sets_of c array x) (get_or c.sizes x 0) (get_or values x 0) h
            | inr out ↦ absurd (must_be_free x (low 0 (omega arith)) out (λ free.
                not (All-get_or (λ t. _ → Universal (sets_of c array) t) c.tables i blank l free (in' 0 (omega arith)) (on_scope changed t.scope) (live_on (sets_of c array) changed t.scope (λ j m. changed_in (get_or t.scope j 0) (known j m))))))
          ])
          (same not scope (λ j m. low (suc j) (omega arith)) (λ j m. in' (suc j) (omega arith)))

  changed_fit : Fit c changed
  changed_fit = record {
    each = length-map-range_with_len (λ x. instead (sets_of c array x) (get_or c.sizes x 0) (get_or values x 0)) 0 (length c.sizes);
    within = λ x l. (in_mod (get_or array x 0) (get_or c.sizes x 0) (get_or changed x 0) (changed_in x l)).1;
    listed = All-from_get_or (λ t. Listed t.rows (on_scope changed t.scope)) c.tables blank listed_at;
  }

  fit_inside : HasFit c array
  fit_inside = (changed, changed_fit, changed_in)

-- ---- the laws

pub dead_box : DeadBox
dead_box c ok array noted some of none values fit meets = none (fit_inside c ok array noted some of values fit meets)

pub inside_meets : InsideMeets
inside_meets c array noted values of within x p = elim (cases_lt x (length c.sizes)) [
  | inl l ↦
      let not-out : LeftOut c array x → ⊥ = λ h. omega (arith, of.left_out x l h) in
      subst (λ s. In s (get_or values x 0)) (sym (of.recorded x l not-out)) (within x l)
  | inr g ↦ omega (arith, of.lacking x g)
]

carry : (c : Contents) → Valid c → (a b noted : List ℕ) → NonEmpty c b → BoxOf c a noted → BoxOf c b noted → HasFit c a → HasFit c b
carry c ok a b noted some of-a of-b (values, fit, within) = fit_inside c ok b noted some of-b values fit (inside_meets c a noted values of-a within)

pub equal_boxes : EqualBoxes
equal_boxes c ok a b noted some-a some-b of-a of-b = (carry c ok a b noted some-b of-a of-b, carry c ok b a noted some-a of-b of-a)

pub one_box : OneBox
one_box c array a b long p q = ext_get_or 0 a b long (λ x _. elim (cases_lt x (length c.sizes)) [
  | inl l ↦ elim (cases_eq (get_or a x 0) (get_or b x 0)) [
    | inl e ↦ e
    | inr n ↦
        let not-out : LeftOut c array x → ⊥ = λ h. n (p.left_out x l h ∙ sym (q.left_out x l h)) in
        absurd (n (p.recorded x l not-out ∙ sym (q.recorded x l not-out)))
  ]
  | inr g ↦ p.lacking x g ∙ sym (q.lacking x g)
])

-- propagated sets are not empty
pub propagated_non_empty : (c : Contents) (start end : List ℕ) → Propagated c start end → NonEmpty c end
propagated_non_empty c start end p x l = omega (arith, p.some x l, p.exact x l)
