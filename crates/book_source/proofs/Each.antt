-- The turns of a loop that reads one thing after another.
use Rattle.std.proofs.Common.{◌≡◌, ℕ, zero, suc, ◌+◌, ◌-◌, ◌<◌, ◌≤◌, List, [], ◌∷◌, ◌++◌, Ok, Err, Result, sym, refl, ap, ◌∙◌, append_assoc, append-nil, arith}
use native.Mathlib.Nat.{sub-zero}
use Rattle.book_fields.specs.declared.field.Fault.{Fault}
use Rattle.book_source.specs.Readings.{Reading, Source, and_then, each, told}

-- what is read, behind what was read before
abbrev pub behind : {X : Type 0} → List X → Result (List X × ℕ) Fault → Result (List X × ℕ) Fault
behind front r = and_then r (λ p. Ok (front ++ p.0, p.1))

pub behind_none : {X : Type 0} (r : Result (List X × ℕ) Fault) → behind [] r ≡ r
behind_none (Ok p) = refl
behind_none (Err e) = refl

behind_one : {X : Type 0} (front : List X) (x : X) (r : Result (List X × ℕ) Fault) → behind (front ++ x ∷ []) r ≡ behind front (and_then r (λ p. Ok (x ∷ p.0, p.1)))
behind_one front x (Ok p) = ap (λ l. Ok (l, p.1)) (append_assoc front (x ∷ []) p.0)
behind_one front x (Err e) = refl

-- A loop that reads things one after another from the source s₀, which is now s: what is left to read gives all, behind what is read.
pub record Sofar {C X : Type 0} (one : Source → C → Reading X) (on : C → X → C) (s₀ s : Source) (front : List X) (c : C) (left at : ℕ) (all : Result (List X × ℕ) Fault) : Type 0 where
  pub same : s ≡ s₀
  pub gives : behind front (each (one s₀) on c left at) ≡ all

module _ {C X : Type 0} (one : Source → C → Reading X) (on : C → X → C) where
  pub sofar_none : (s : Source) (c : C) (n at : ℕ) → Sofar one on s s [] c (n - 0) at (each (one s) on c n at)
  sofar_none s c n at = record { same = refl; gives = behind_none (each (one s) on c (n - 0) at) ∙ ap (λ k. each (one s) on c k at) (sub-zero n) }

  module _ (s₀ s : Source) (front : List X) (c : C) (n i at : ℕ) (all : Result (List X × ℕ) Fault) (so : Sofar one on s₀ s front c (n - i) at all) where
    rest : Result (X × ℕ) Fault → Result (List X × ℕ) Fault
    rest r = and_then r (λ p. and_then (each (one s₀) on (on c p.0) (n - (i + 1)) p.1) (λ q. Ok (p.0 ∷ q.0, q.1)))

    stepped : i < n → behind front (rest (one s c at)) ≡ all
    unfolding rest
    stepped lt =
        let e : n - i ≡ suc (n - (i + 1)) = omega arith in
        ap (λ t. behind front (rest (one t c at))) so.same ∙ sym (ap (λ k. behind front (each (one s₀) on c k at)) e) ∙ so.gives

    -- one thing more, by a call that answers r
    pub sofar_more : {Y : Type 0} (f : Y → X) (r : Result Y Fault) (y : Y) (end : ℕ) (t : Source) (more : List X) (d : C) → i < n → r ≡ Ok y → told f r end ≡ one s c at → t ≡ s → more ≡ front ++ f y ∷ [] → d ≡ on c (f y)
        → Sofar one on s₀ t more d (n - (i + 1)) end all
    unfolding rest
    sofar_more f r y end t more d lt was told_is same grown carried =
        let got : one s c at ≡ Ok (f y, end) = sym told_is ∙ ap (λ q. told f q end) was in
        record {
          same = same ∙ so.same;
          gives = (λ t. behind (grown t) (each (one s₀) on (carried t) (n - (i + 1)) end))
              ∙ behind_one front (f y) (each (one s₀) on (on c (f y)) (n - (i + 1)) end)
              ∙ sym (ap (λ q. behind front (rest q)) got) ∙ stepped lt;
        }

    -- a call that refuses ends the loop
    pub sofar_stop : {Y : Type 0} (f : Y → X) (r : Result Y Fault) (e : Fault) (end : ℕ) → i < n → r ≡ Err e → told f r end ≡ one s c at → Err e ≡ all
    unfolding rest
    sofar_stop f r e end lt was told_is =
        let got : one s c at ≡ Err e = sym told_is ∙ ap (λ q. told f q end) was in
        sym (ap (λ q. behind front (rest q)) got) ∙ stepped lt

    pub sofar_all : (whole : List X) → n ≤ i → whole ≡ front → Ok (whole, at) ≡ all
    sofar_all whole ge is =
        let e : n - i ≡ zero = omega arith in
        ap (λ l. Ok (l, at)) (is ∙ sym (append-nil front)) ∙ sym (ap (λ k. behind front (each (one s₀) on c k at)) e) ∙ so.gives
