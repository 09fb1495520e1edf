-- What a source was asked and answered in a reading, and that whoever answers the same gives the same.
use Rattle.std.proofs.Common.{◌≡◌, ℕ, zero, suc, ◌<◌, ◌≤◌, true, false, cond, List, [], ◌∷◌, ◌++◌, Ok, sym, refl, ap, ◌∙◌, subst, append_assoc, arith, lt-ltb, le-leb}
use Rattle.std.specs.List.{AllByRecursion}
use Rattle.std.proofs.ByRecursion.{All-append}
use Rattle.book_fields.specs.declared.field.Field.{Field}
use Rattle.book_fields.specs.Fields.{asked}
use Rattle.book_source.specs.Readings.{Reading, Source, ask, and_then, next, give, between, within, each}
use Rattle.book_source.proofs.Inversion.{ok_so, next_so, within_so}
use Rattle.book_source.proofs.Steps.{next_ok}
use Rattle.draft.specs.Entries.{Entry}
use Rattle.draft.specs.Encoding.{Fit}

-- fields that a source answers one after another, from a bit on, and the bit behind them
abbrev pub Answered : Source → List Entry → ℕ → ℕ → Type 0
Answered s [] at end = at ≡ end
Answered s (e ∷ es) at end = (mid : ℕ) × (s e.0 at ≡ Ok (e.1, mid)) × Answered s es mid end

pub answered_append : (s : Source) (xs ys : List Entry) (a b d : ℕ) → Answered s xs a b → Answered s ys b d → Answered s (xs ++ ys) a d
answered_append s [] ys a b d x y = subst (λ k. Answered s ys k d) (sym x) y
answered_append s (e ∷ xs) ys a b d x y = (x.0, x.1, answered_append s xs ys x.0 b d x.2 y)

pub answered_split : {P : Type 0} (s : Source) (xs ys : List Entry) (a d : ℕ) → Answered s (xs ++ ys) a d → ((b : ℕ) → Answered s xs a b → Answered s ys b d → P) → P
answered_split s [] ys a d x so = so a refl x
answered_split s (e ∷ xs) ys a d x so = answered_split s xs ys x.0 d x.2 (λ b l r. so b (x.0, x.1, l) r)

-- whatever source answers these fields so is read as this
abbrev pub Gives : {X : Type 0} → (Source → Reading X) → List Entry → X → Type 0
Gives m es x = (s : Source) (at end : ℕ) → Answered s es at end → m s at ≡ Ok (x, end)

between_so : (low high v : ℕ) → low ≤ v → v < high → between low high v ≡ true
between_so low high v l h = (λ t. cond (le-leb low v l t) (lt-ltb v high h t) false)

pub gives_within : (f : Field) (low high v : ℕ) → low ≤ v → v < high → Gives (λ s. within s f low high) ((f, v) ∷ []) v
gives_within f low high v l h s at end x =
    ap (λ r. and_then r (λ p. ask (between low high p.0) (asked f) at f (Ok p))) x.1
    ∙ ap (λ t. ask t (asked f) at f (Ok (v, x.0))) (between_so low high v l h) ∙ ap (λ k. Ok (v, k)) x.2

-- a reading from a source, by the fields that it asked for
pub record Said {X : Type 0} (s : Source) (m : Source → Reading X) (es : List Entry) (x : X) (at end : ℕ) : Type 0 where
  pub answers : Answered s es at end
  pub fit : AllByRecursion Fit es
  pub again : Gives m es x

module _ (s : Source) where
  pub said_as : {X : Type 0} (m : Source → Reading X) (x : X) (at end : ℕ) {es es' : List Entry} → es ≡ es' → Said s m es x at end → Said s m es' x at end
  said_as m x at end e h = subst (λ l. Said s m l x at end) e h

  pub said_give : {X : Type 0} (x : X) (at : ℕ) → Said s (λ s. give x) [] x at at
  said_give x at = record { answers = refl; fit = tt; again = λ s a b e. ap (λ k. Ok (x, k)) e }

  pub said_next : {X Y : Type 0} (m : Source → Reading X) (k : Source → X → Reading Y) (x : X) (y : Y) (xs ys : List Entry) (at mid end : ℕ)
      → Said s m xs x at mid → Said s (λ s. k s x) ys y mid end → Said s (λ s. next (m s) (k s)) (xs ++ ys) y at end
  said_next m k x y xs ys at mid end one two = record {
    answers = answered_append s xs ys at mid end one.answers two.answers;
    fit = All-append Fit xs ys one.fit two.fit;
    again = λ s a b h. answered_split s xs ys a b h (λ j l r. next_ok (m s) (k s) a x j (one.again s a j l) ∙ two.again s j b r);
  }

  -- the last reading, of which something is made
  pub said_last : {X Y : Type 0} (m : Source → Reading X) (f : X → Y) (x : X) (xs : List Entry) (at end : ℕ) → Said s m xs x at end → Said s (λ s. next (m s) (λ x. give (f x))) xs (f x) at end
  said_last m f x xs at end one = record {
    answers = one.answers;
    fit = one.fit;
    again = λ s a b h. next_ok (m s) (λ x. give (f x)) a x b (one.again s a b h);
  }

  pub said_within : (f : Field) (low high at v end : ℕ) → within s f low high at ≡ Ok (v, end) → (low ≤ v → v < high → Fit (f, v)) → Said s (λ s. within s f low high) ((f, v) ∷ []) v at end
  said_within f low high at v end e fits =
      within_so s f low high at v end e (λ got l h. record { answers = (end, got, refl); fit = (fits l h, tt); again = gives_within f low high v l h })

  -- things that are read one after another; Q is what is known of each, with what was carried on to it
  module _ {C X : Type 0} (one : Source → C → Reading X) (on : C → X → C) (es : C → X → List Entry) (all : C → List X → List Entry)
      (none : (c : C) → all c [] ≡ []) (more : (c : C) (x : X) (xs : List X) → all c (x ∷ xs) ≡ es c x ++ all (on c x) xs)
      (step : (c : C) (at : ℕ) (x : X) (end : ℕ) → one s c at ≡ Ok (x, end) → Said s (λ s. one s c) (es c x) x at end) where
    pub said_each : (n : ℕ) (c : C) (at : ℕ) (xs : List X) (end : ℕ) → each (one s) on c n at ≡ Ok (xs, end) → Said s (λ s. each (one s) on c n) (all c xs) xs at end
    said_each zero c at xs end e =
        let p : ([], at) ≡ (xs, end) = ok_so e in
        subst (λ (q : List X × ℕ). Said s (λ s. each (one s) on c zero) (all c q.0) q.0 at q.1) p (said_as (λ s. give []) [] at at (sym (none c)) (said_give [] at))
    said_each (suc n) c at xs end e =
        next_so (one s c) _ at e (λ x mid was rest.
        next_so (each (one s) on (on c x) n) _ mid rest (λ ys fin was' last.
        let p : (x ∷ ys, fin) ≡ (xs, end) = ok_so last in
        subst (λ (q : List X × ℕ). Said s (λ s. each (one s) on c (suc n)) (all c q.0) q.0 at q.1) p
        (said_as (λ s. each (one s) on c (suc n)) (x ∷ ys) at fin (sym (more c x ys))
        (said_next (λ s. one s c) (λ s x. next (each (one s) on (on c x) n) (λ xs. give (x ∷ xs))) x (x ∷ ys) (es c x) (all (on c x) ys) at mid fin (step c at x mid was)
        (said_last (λ s. each (one s) on (on c x) n) (λ xs. x ∷ xs) ys (all (on c x) ys) mid fin (said_each n (on c x) mid ys fin was'))))))

-- a reading up to the end, for which no bits stand
abbrev pub ended : List Entry
ended = (Field.End, 0) ∷ []

pub record Whole {X : Type 0} (s : Source) (m : Source → Reading X) (es : List Entry) (x : X) (at end : ℕ) : Type 0 where
  pub answers : Answered s (es ++ ended) at end
  pub fit : AllByRecursion Fit es
  pub again : Gives m (es ++ ended) x

module _ (s : Source) where
  pub whole_as : {X : Type 0} (m : Source → Reading X) (x : X) (at end : ℕ) {es es' : List Entry} → es ≡ es' → Whole s m es x at end → Whole s m es' x at end
  whole_as m x at end e h = subst (λ l. Whole s m l x at end) e h

  pub whole_next : {X Y : Type 0} (m : Source → Reading X) (k : Source → X → Reading Y) (x : X) (y : Y) (xs ys : List Entry) (at mid end : ℕ)
      → Said s m xs x at mid → Whole s (λ s. k s x) ys y mid end → Whole s (λ s. next (m s) (k s)) (xs ++ ys) y at end
  whole_next m k x y xs ys at mid end one two =
      let e = append_assoc xs ys ended in
      record {
        answers = subst (λ l. Answered s l at end) (sym e) (answered_append s xs (ys ++ ended) at mid end one.answers two.answers);
        fit = All-append Fit xs ys one.fit two.fit;
        again = subst (λ l. Gives (λ s. next (m s) (k s)) l y) (sym e)
            (λ s a b h. answered_split s xs (ys ++ ended) a b h (λ j l r. next_ok (m s) (k s) a x j (one.again s a j l) ∙ two.again s j b r));
      }

  pub whole_last : {X Y : Type 0} (m : Source → Reading X) (f : X → Y) (x : X) (xs : List Entry) (at end : ℕ) → Whole s m xs x at end → Whole s (λ s. next (m s) (λ x. give (f x))) xs (f x) at end
  whole_last m f x xs at end one = record {
    answers = one.answers;
    fit = one.fit;
    again = λ s a b h. next_ok (m s) (λ x. give (f x)) a x b (one.again s a b h);
  }

  pub whole_end : {X : Type 0} (x : X) (at v end : ℕ) → within s Field.End 0 1 at ≡ Ok (v, end) → Whole s (λ s. next (within s Field.End 0 1) (λ _. give x)) [] x at end
  whole_end x at v end e =
      within_so s Field.End 0 1 at v end e (λ got _ h.
      let none : v ≡ 0 = omega arith in
      record {
        answers = (end, got ∙ ap (λ k. Ok (k, end)) none, refl);
        fit = tt;
        again = λ s a b h. next_ok (within s Field.End 0 1) (λ _. give x) a 0 b (gives_within Field.End 0 1 0 (omega arith) (omega arith) s a b h);
      })
