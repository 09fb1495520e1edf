-- A ring in its places: how many it has, which, and one more put into it.
use Rattle.std.proofs.Common.{◌≡◌, ℕ, ◌+◌, ◌<◌, ◌≤◌, Bool, true, false, cond, eqb, List, [], ◌∷◌, ◌++◌, reverse, length, get_or, take, drop, set, Decides, sym, ap, ◌∙◌, subst, inl, inr, arith}
use Rattle.std.specs.List.{IsAnyAnswer, ContainsAt as Has}
use Rattle.std.proofs.lemmas.List.Elements.{contains_decides}
use Rattle.std.proofs.lemmas.Bool.{cases_Bool, cond-true, cond-false, eqb-true}
use Rattle.std.proofs.lemmas.List.{append-nil, append_assoc, reverse-append, length-append, length-reverse, length-take-le, length-drop, take-append-drop, take_more_set, drop-set-lt, drop_more, take_all, drop_all, take_at, length-set}
use Rattle.store.specs.Ring.{newest_first}
use Rattle.store.proofs.Members.{has_reverse, has_unreversed, has_swapped}

module _ {X : Type 0} where
  pub length_newest : (ps : List X) (n : ℕ) (full : Bool) → n ≤ length ps → length (newest_first ps n full) ≡ cond full (length ps) n
  length_newest ps n true l = simp (length-append, length-reverse, length-drop) (omega (arith, length-take-le n ps l))
  length_newest ps n false l = simp (append-nil, length-reverse) (length-take-le n ps l)

  -- all places of a full ring
  pub newest_full : (ps : List X) (n : ℕ) → newest_first ps n true ≡ reverse (drop n ps ++ take n ps)
  newest_full ps n = sym (reverse-append (drop n ps) (take n ps))

  -- what the places that count have is what the ring has
  pub has_newest : (ps : List X) (n : ℕ) (full : Bool) (x : X) → Has (take (cond full (length ps) n) ps) x → Has (newest_first ps n full) x
  has_newest ps n true x h =
      let all : Has ps x = subst (λ zs. Has zs x) (take_all (length ps) ps (omega arith)) h in
      let parts : Has (take n ps ++ drop n ps) x = rw take-append-drop all in
      rw newest_full (has_reverse (drop n ps ++ take n ps) x (has_swapped (take n ps) (drop n ps) x parts))
  has_newest ps n false x h = rw append-nil (has_reverse (take n ps) x h)

  pub newest_has : (ps : List X) (n : ℕ) (full : Bool) (x : X) → Has (newest_first ps n full) x → Has (take (cond full (length ps) n) ps) x
  newest_has ps n true x h =
      let turned : Has (drop n ps ++ take n ps) x = has_unreversed (drop n ps ++ take n ps) x (rw newest_full at h) in
      let all : Has ps x = rw take-append-drop at (has_swapped (drop n ps) (take n ps) x turned) in
      subst (λ zs. Has zs x) (sym (take_all (length ps) ps (omega arith))) all
  newest_has ps n false x h = has_unreversed (take n ps) x (rw append-nil at h)

  -- one more in the place n
  put_front : (ps : List X) (n : ℕ) (b : X) → n < length ps → reverse (take (n + 1) (set ps n b)) ≡ b ∷ reverse (take n ps)
  put_front ps n b l = ap reverse (take_more_set ps n b l) ∙ reverse-append (take n ps) (b ∷ [])

  -- the place n is the last of those from it on, the newest first
  put_back : (ps : List X) (n : ℕ) (d : X) → n < length ps → reverse (drop n ps) ≡ reverse (drop (n + 1) ps) ++ get_or ps n d ∷ []
  put_back ps n d l = ap reverse (drop_more ps n d l) ∙ reverse-append (get_or ps n d ∷ []) (drop (n + 1) ps)

  -- one more in a ring of m places
  pub newest_put : (ps : List X) (n m : ℕ) (full : Bool) (b : X) → n < m → length ps ≡ m → newest_first (set ps n b) (n + 1) full ≡ take m (b ∷ newest_first ps n full)
  newest_put ps n m false b l e =
      let front = put_front ps n b (omega arith) in
      let few : length (b ∷ newest_first ps n false) ≤ m = omega (arith, length_newest ps n false (omega arith)) in
      ap (λ z. z ++ []) front ∙ sym (take_all m (b ∷ newest_first ps n false) few)
  newest_put ps n m true b l e =
      let front = put_front ps n b (omega arith) in
      let rest : reverse (drop (n + 1) (set ps n b)) ≡ reverse (drop (n + 1) ps) = ap reverse (drop-set-lt (n + 1) ps n b (omega arith)) in
      let old : newest_first ps n true ≡ kept ++ get_or ps n b ∷ [] = ap (λ z. reverse (take n ps) ++ z) (put_back ps n b (omega arith)) ∙ sym (append_assoc (reverse (take n ps)) (reverse (drop (n + 1) ps)) (get_or ps n b ∷ [])) in
      let many : length (b ∷ kept) ≡ m = simp (length-append, length-reverse, length-drop) (omega (arith, length-take-le n ps (omega arith))) in
      (ap (λ z. z ++ reverse (drop (n + 1) (set ps n b))) front ∙ ap (λ z. b ∷ (reverse (take n ps) ++ z)) rest) ∙ sym (ap (λ z. take m (b ∷ z)) old ∙ take_at (b ∷ kept) (get_or ps n b ∷ []) m many)
    where
      kept : List X
      kept = reverse (take n ps) ++ reverse (drop (n + 1) ps)

  -- past the last place comes the first
  pub newest_round : (ps : List X) (full : Bool) → newest_first ps (length ps) full ≡ newest_first ps 0 true
  newest_round ps true = simp (take_all (length ps) ps (omega arith), drop_all (length ps) ps (omega arith), append-nil)
  newest_round ps false = simp (take_all (length ps) ps (omega arith), append-nil)

  -- one more in the last place of a ring of m places
  pub newest_put_last : (ps : List X) (n m : ℕ) (full : Bool) (b : X) → n + 1 ≡ m → length ps ≡ m → newest_first (set ps n b) 0 true ≡ take m (b ∷ newest_first ps n full)
  newest_put_last ps n m full b l e =
      let last : n + 1 ≡ length (set ps n b) = l ∙ sym (length-set ps n b ∙ e) in
      sym (ap (λ k. newest_first (set ps n b) k full) last ∙ newest_round (set ps n b) full) ∙ newest_put ps n m full b (omega arith) e

  -- one more in any place of a ring of m places, and on to the next
  pub newest_told : (ps : List X) (n m : ℕ) (full : Bool) (b : X) (qs : List X) (k : ℕ) (g : Bool) → n < m → length ps ≡ m → qs ≡ set ps n b → k ≡ cond (eqb (n + 1) m) 0 (n + 1) → g ≡ cond (eqb (n + 1) m) true full → newest_first qs k g ≡ take m (b ∷ newest_first ps n full)
  newest_told ps n m full b qs k g l e at on to =
      elim (cases_Bool (eqb (n + 1) m)) [
        | inl t ↦ let i = on ∙ cond-true (eqb (n + 1) m) 0 (n + 1) t in
            let f = to ∙ cond-true (eqb (n + 1) m) true full t in
            rw (at, i, f) (newest_put_last ps n m full b (eqb-true (n + 1) m t) e)
        | inr t ↦ let i = on ∙ cond-false (eqb (n + 1) m) 0 (n + 1) t in
            let f = to ∙ cond-false (eqb (n + 1) m) true full t in
            rw (at, i, f) (newest_put ps n m full b l e)
      ]

  -- a look at the places that count, by a test that decides equality
  pub decides_newest : (E : X → X → Bool) → ((a b : X) → Decides (E a b) (a ≡ b)) → (ps : List X) (n m k : ℕ) (full : Bool) (x : X) (r : Bool) → IsAnyAnswer (λ y t. E y x ≡ t) (take k ps) r → k ≡ cond full m n → length ps ≡ m → Decides r (Has (newest_first ps n full) x)
  decides_newest E same ps n m k full x r h c e =
      let all : k ≡ cond full (length ps) n = c ∙ ap (λ j. cond full j n) (sym e) in
      let D : ℕ → Type 0 = λ j. Decides r (Has (take j ps) x) in
      let d = subst D all (contains_decides E same (take k ps) x r h) in
      ((λ t. has_newest ps n full x (d.0 t)), (λ t. d.1 (newest_has ps n full x t)))
