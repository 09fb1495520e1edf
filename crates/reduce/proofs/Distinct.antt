-- Distinct elements, counted.
use Rattle.std.proofs.Common.{◌≡◌, ℕ, suc, ◌*◌, ◌≤◌, Bool, true, false, cond, ◌⊎◌, List, [], ◌∷◌, ◌++◌, map, length, filter, sym, refl, ap, ◌∙◌, subst, inl, inr, suc-mul, arith}
use Rattle.std.specs.List.{flat_map}
use Rattle.std.proofs.lemmas.List.{length-append}

abbrev pub Among : {X : Type 0} → X → List X → Type 0
Among x [] = ⊥
Among x (y ∷ ys) = (x ≡ y) ⊎ Among x ys

abbrev pub Distinct : {X : Type 0} → List X → Type 0
Distinct [] = Unit {0}
Distinct (x ∷ xs) = (Among x xs → ⊥) × Distinct xs

module _ {X : Type 0} where
  abbrev without : (x : X) (ys : List X) → Among x ys → List X
  without x [] m = []
  without x (y ∷ ys) (inl e) = ys
  without x (y ∷ ys) (inr m) = y ∷ without x ys m

  length_without : (x : X) (ys : List X) (m : Among x ys) → suc (length (without x ys m)) ≡ length ys
  length_without x [] m = absurd m
  length_without x (y ∷ ys) (inl e) = refl
  length_without x (y ∷ ys) (inr m) = ap suc (length_without x ys m)

  among_cases : (x z : X) (ys : List X) (m : Among x ys) → Among z ys → (z ≡ x) ⊎ Among z (without x ys m)
  among_cases x z [] m h = absurd m
  among_cases x z (y ∷ ys) (inl e) (inl f) = inl (f ∙ sym e)
  among_cases x z (y ∷ ys) (inl e) (inr h) = inr h
  among_cases x z (y ∷ ys) (inr m) (inl f) = inr (inl f)
  among_cases x z (y ∷ ys) (inr m) (inr h) = elim (among_cases x z ys m h) [ inl e ↦ inl e | inr k ↦ inr (inr k) ]

  -- distinct elements that all stand in ys leave no room for more, and where ys is no longer they are all of it
  pub no_longer : (xs ys : List X) → Distinct xs → ((z : X) → Among z xs → Among z ys) → length xs ≤ length ys
  no_longer [] ys d sub = omega arith
  no_longer (x ∷ xs) ys d sub =
      let m = sub x (inl refl) in
      omega (arith, length_without x ys m, no_longer xs (without x ys m) d.1 (λ z h. elim (among_cases x z ys m (sub z (inr h))) [ inl e ↦ absurd (d.0 (subst (λ z. Among z xs) e h)) | inr k ↦ k ]))

  pub exhausts : (xs ys : List X) → Distinct xs → ((z : X) → Among z xs → Among z ys) → length ys ≤ length xs → (z : X) → Among z ys → Among z xs
  exhausts [] [] d sub few z h = h
  exhausts [] (y ∷ ys) d sub few z h = absurd (omega arith)
  exhausts (x ∷ xs) ys d sub few z h =
      let m = sub x (inl refl) in
      elim (among_cases x z ys m h) [
        | inl e ↦ inl e
        | inr k ↦ inr (exhausts xs (without x ys m) d.1
            (λ z h. elim (among_cases x z ys m (sub z (inr h))) [ inl e ↦ absurd (d.0 (subst (λ z. Among z xs) e h)) | inr k ↦ k ])
            (omega (arith, length_without x ys m)) z k)
      ]

  pub among_left : (z : X) (xs ys : List X) → Among z xs → Among z (xs ++ ys)
  among_left z [] ys h = absurd h
  among_left z (x ∷ xs) ys (inl e) = inl e
  among_left z (x ∷ xs) ys (inr h) = inr (among_left z xs ys h)

  pub among_right : (z : X) (xs ys : List X) → Among z ys → Among z (xs ++ ys)
  among_right z [] ys h = h
  among_right z (x ∷ xs) ys h = inr (among_right z xs ys h)

  pub among_either : (z : X) (xs ys : List X) → Among z (xs ++ ys) → Among z xs ⊎ Among z ys
  among_either z [] ys h = inr h
  among_either z (x ∷ xs) ys (inl e) = inl (inl e)
  among_either z (x ∷ xs) ys (inr h) = elim (among_either z xs ys h) [ inl k ↦ inl (inr k) | inr k ↦ inr k ]

  pub distinct_append : (xs ys : List X) → Distinct xs → Distinct ys → ((z : X) → Among z xs → Among z ys → ⊥) → Distinct (xs ++ ys)
  distinct_append [] ys d e apart = e
  distinct_append (x ∷ xs) ys d e apart = (
    λ h. elim (among_either x xs ys h) [ inl k ↦ d.0 k | inr k ↦ apart x (inl refl) k ],
    distinct_append xs ys d.1 e (λ z h k. apart z (inr h) k),
  )

  pub among_kept : (p : X → Bool) (z : X) (xs : List X) → Among z xs → p z ≡ true → Among z (filter p xs)
  among_kept p z [] h t = absurd h
  among_kept p z (x ∷ xs) (inl e) t = rw (sym (ap p e) ∙ t) (inl e)
  among_kept p z (x ∷ xs) (inr h) t = go (p x) (among_kept p z xs h t)
    where
      go : (b : Bool) → Among z (filter p xs) → Among z (cond b (x ∷ filter p xs) (filter p xs))
      go true k = inr k
      go false k = k

  pub kept_among : (p : X → Bool) (z : X) (xs : List X) → Among z (filter p xs) → Among z xs × (p z ≡ true)
  kept_among p z [] h = absurd h
  kept_among p z (x ∷ xs) h = go (p x) refl (kept_among p z xs) h
    where
      go : (b : Bool) → p x ≡ b → (Among z (filter p xs) → Among z xs × (p z ≡ true)) → Among z (cond b (x ∷ filter p xs) (filter p xs)) → Among z (x ∷ xs) × (p z ≡ true)
      go true e ih (inl f) = (inl f, ap p f ∙ e)
      go true e ih (inr k) = (inr (ih k).0, (ih k).1)
      go false e ih k = (inr (ih k).0, (ih k).1)

  pub distinct_kept : (p : X → Bool) (xs : List X) → Distinct xs → Distinct (filter p xs)
  distinct_kept p [] d = tt
  distinct_kept p (x ∷ xs) d = go (p x) (distinct_kept p xs d.1)
    where
      go : (b : Bool) → Distinct (filter p xs) → Distinct (cond b (x ∷ filter p xs) (filter p xs))
      go true k = (λ h. d.0 (kept_among p x xs h).0, k)
      go false k = k

module _ {X Y : Type 0} (f : X → Y) where
  pub among_map : (x : X) (xs : List X) → Among x xs → Among (f x) (map f xs)
  among_map x [] h = absurd h
  among_map x (y ∷ ys) (inl e) = inl (ap f e)
  among_map x (y ∷ ys) (inr h) = inr (among_map x ys h)

  pub map_among : (z : Y) (xs : List X) → Among z (map f xs) → (x : X) × Among x xs × (z ≡ f x)
  map_among z [] h = absurd h
  map_among z (x ∷ xs) (inl e) = (x, inl refl, e)
  map_among z (x ∷ xs) (inr h) = let r = map_among z xs h in (r.0, inr r.1, r.2)

  pub distinct_map : ((x y : X) → f x ≡ f y → x ≡ y) → (xs : List X) → Distinct xs → Distinct (map f xs)
  distinct_map inj [] d = tt
  distinct_map inj (x ∷ xs) d =
      (λ h. let r = map_among (f x) xs h in d.0 (subst (λ z. Among z xs) (sym (inj x r.0 r.2)) r.1), distinct_map inj xs d.1)

module _ {X Y : Type 0} (f : X → List Y) where
  pub among_joined : (x : X) (z : Y) (xs : List X) → Among x xs → Among z (f x) → Among z (flat_map f xs)
  among_joined x z [] h m = absurd h
  among_joined x z (y ∷ ys) (inl e) m = among_left z (f y) (flat_map f ys) (subst (λ y. Among z (f y)) e m)
  among_joined x z (y ∷ ys) (inr h) m = among_right z (f y) (flat_map f ys) (among_joined x z ys h m)

  pub joined_among : (z : Y) (xs : List X) → Among z (flat_map f xs) → (x : X) × Among x xs × Among z (f x)
  joined_among z [] h = absurd h
  joined_among z (x ∷ xs) h = elim (among_either z (f x) (flat_map f xs) h) [
    | inl m ↦ (x, inl refl, m)
    | inr m ↦ let r = joined_among z xs m in (r.0, inr r.1, r.2)
  ]

  pub distinct_joined : ((x : X) → Distinct (f x)) → ((x y : X) (z : Y) → Among z (f x) → Among z (f y) → x ≡ y) → (xs : List X) → Distinct xs → Distinct (flat_map f xs)
  distinct_joined each apart [] d = tt
  distinct_joined each apart (x ∷ xs) d =
      distinct_append (f x) (flat_map f xs) (each x) (distinct_joined each apart xs d.1)
      (λ z h k. let r = joined_among z xs k in d.0 (subst (λ y. Among y xs) (sym (apart x r.0 z h r.2)) r.1))

  pub length_joined : (n : ℕ) → ((x : X) → length (f x) ≡ n) → (xs : List X) → length (flat_map f xs) ≡ length xs * n
  length_joined n each [] = omega arith
  length_joined n each (x ∷ xs) = length-append (f x) (flat_map f xs) ∙ omega (arith, each x, length_joined n each xs, suc-mul (length xs) n)
