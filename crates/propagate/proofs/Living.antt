-- Live rows, place by place.
use Rattle.std.proofs.Common.{◌≡◌, ℕ, suc, ◌<◌, Bool, true, false, List, [], ◌∷◌, length, get_or, Decides, MatchBool, sym, refl, ap, ◌∙◌, subst, arith}
use Rattle.std.specs.List.{AllZip, All, AllWithin, HoldsAt, zip}
use Rattle.std.proofs.lemmas.Slice.Zip.{get_or-zip, length-zip}
use Rattle.std.proofs.lemmas.List.Elements.{AllZip-get_or}
use Rattle.std.proofs.lemmas.Bool.{false≢true}
use Rattle.std.proofs.lemmas.Bool.Decides.{Decides-and, Decides-eqb}
use Rattle.values.specs.Members.{In}
use Rattle.propagate.specs.Sets.{Sets, Inside}
use Rattle.propagate.specs.Support.{Live, is_in, is_live}

pub each_from_get_d : (R : ℕ → ℕ → Type 0) (xs ys : List ℕ) → length xs ≡ length ys → ((k : ℕ) → k < length xs → R (get_or xs k 0) (get_or ys k 0)) → AllZip R xs ys
each_from_get_d R [] [] e h = tt
each_from_get_d R [] (y ∷ ys) e h = omega arith
each_from_get_d R (x ∷ xs) [] e h = omega arith
each_from_get_d R (x ∷ xs) (y ∷ ys) e h = (h 0 (omega arith), each_from_get_d R xs ys (omega arith) (λ k l. h (suc k) (omega arith)))

-- a pair of the scope and the row, as they are gone over side by side: its value is in its option's set, or not
abbrev pub GoesOn : Sets → ℕ × ℕ → Type 0
GoesOn sets p = Decides true (In (sets p.0) p.1)

abbrev pub Stops : Sets → ℕ × ℕ → Type 0
Stops sets p = Decides false (In (sets p.0) p.1)

module _ (scope row : List ℕ) (long : length row ≡ length scope) where
  pair_at : (k : ℕ) (d : ℕ × ℕ) → k < length (zip scope row) → get_or (zip scope row) k d ≡ (get_or scope k d.0, get_or row k d.1)
  pair_at k d l = get_or-zip scope row k d (omega (arith, length-zip scope row)) (omega (arith, length-zip scope row))

  pub live_decided : (sets : Sets) (r : Bool) → MatchBool r (AllWithin (GoesOn sets) (zip scope row) 0 (length (zip scope row))) ((k : ℕ) × (k < length (zip scope row)) × HoldsAt (Stops sets) (zip scope row) k) → Decides r (Live sets scope row)
  live_decided sets true h = (
    λ _. each_from_get_d (λ x v. In (sets x) v) scope row (sym long) (λ k l.
        let in-zip : k < length (zip scope row) = omega (arith, length-zip scope row, long) in
        (subst (GoesOn sets) (pair_at k (0, 0) in-zip) (h k (0, 0) (omega arith) in-zip)).0 refl),
    λ _. refl,
  )
  live_decided sets false (k, l, h) = (
    λ e. absurd (false≢true e),
    λ alive. absurd (false≢true ((subst (Stops sets) (pair_at k (0, 0) l) (h (0, 0))).1 (AllZip-get_or (λ x v. In (sets x) v) scope row k 0 0 alive (omega (arith, length-zip scope row))))),
  )

  -- what holds of each option of the scope, and of each value of the row, holds of a pair
  pub firsts_at : (P : ℕ → Type 0) (k : ℕ) (p : ℕ × ℕ) → k < length (zip scope row) → p ≡ get_or (zip scope row) k p → All P scope → P p.0
  firsts_at P k p l e all = subst P (sym (ap (λ (q : ℕ × ℕ). q.0) (e ∙ pair_at k p l))) (all k p.0 (omega (arith, length-zip scope row)))

  pub seconds_at : (P : ℕ → Type 0) (k : ℕ) (p : ℕ × ℕ) → k < length (zip scope row) → p ≡ get_or (zip scope row) k p → All P row → P p.1
  seconds_at P k p l e all = subst P (sym (ap (λ (q : ℕ × ℕ). q.1) (e ∙ pair_at k p l))) (all k p.1 (omega (arith, length-zip scope row)))

pub is_live_decides : (sets : Sets) (scope row : List ℕ) → Decides (is_live sets scope row) (Live sets scope row)
is_live_decides sets [] [] = (λ _. tt, λ _. refl)
is_live_decides sets [] (v ∷ row) = (λ e. absurd (false≢true e), λ h. absurd h)
is_live_decides sets (x ∷ scope) [] = (λ e. absurd (false≢true e), λ h. absurd h)
is_live_decides sets (x ∷ scope) (v ∷ row) = Decides-and (is_in (sets x) v) (is_live sets scope row) (Decides-eqb _ 1) (is_live_decides sets scope row)

-- a live row of some sets is live in others that agree with them on the scope, or hold more
pub live_like : (a b : Sets) (scope row : List ℕ) → ((j v : ℕ) → j < length scope → In (a (get_or scope j 0)) v → In (b (get_or scope j 0)) v) → Live a scope row → Live b scope row
live_like a b [] [] h l = tt
live_like a b [] (v ∷ row) h l = absurd l
live_like a b (x ∷ scope) [] h l = absurd l
live_like a b (x ∷ scope) (v ∷ row) h l = (h 0 v (omega arith) l.0, live_like a b scope row (λ j w m. h (suc j) w (omega arith)) l.1)

pub live_inside : (a b : Sets) (scope row : List ℕ) → Inside a b → Live a scope row → Live b scope row
live_inside a b scope row h = live_like a b scope row (λ j v _. h (get_or scope j 0) v)
