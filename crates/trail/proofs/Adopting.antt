-- Sets taken over one by one.
use Rattle.std.proofs.Common.{◌≡◌, ℕ, ◌+◌, ◌<◌, ◌≤◌, ◌≢◌, List, ◌∷◌, length, get_or, take, set, sym, refl, ap, ◌∙◌, subst, inl, inr, arith, get_or-set_other, get_or-set_same, get_or-take}
use lib.Count.{ones}
use Rattle.std.proofs.lemmas.List.{length-take-le, same_lists, get_or_default}
use Rattle.std.proofs.lemmas.Bool.{cases_eq, cases_lt}
use Rattle.values.specs.Members.{In}
use Rattle.trail.specs.declared.kinds.Saved.{Saved}
use Rattle.trail.specs.Trails.{saved, total, Saves, none, more}
use Rattle.trail.proofs.Undone.{total_set}
use Rattle.trail.proofs.Fewer.{fewer}

-- the first m sets are those of next, and the others as they were
pub record Adopted (options room : ℕ) (next before : List ℕ) (ts : List Saved) (m : ℕ) (now : List ℕ) (us : List Saved) : Type 0 where
  pub done : (y : ℕ) → y < m → get_or now y 0 ≡ get_or next y 0
  pub rest : (y : ℕ) → m ≤ y → get_or now y 0 ≡ get_or before y 0
  pub saves : Saves options before ts now us
  pub spare : total options now + length us ≤ room

pub adopted_none : (options room : ℕ) (next before : List ℕ) (ts : List Saved) → total options before + length ts ≤ room → Adopted options room next before ts 0 before ts
adopted_none options room next before ts h = record { done = λ y l. absurd (omega arith); rest = λ y l. refl; saves = none; spare = h }

module _ (options room : ℕ) (next before : List ℕ) (ts : List Saved) (m : ℕ) (now : List ℕ) (us : List Saved) (a : Adopted options room next before ts m now us) where
  -- the next set that is taken over
  module _ (few : options ≤ length next) (one : m < length (take options next)) where
    here : m < options
    here = omega (arith, one, length-take-le options next few)

    is : get_or (take options next) m 0 ≡ get_or next m 0
    is = get_or-take options next m 0 here

    -- a set that is the same
    pub adopted_same : (after : List ℕ) (ws : List Saved) → after ≡ now → ws ≡ us → get_or now m 0 ≡ get_or (take options next) m 0 → Adopted options room next before ts (m + 1) after ws
    adopted_same after ws f g e = rw (f, g) (record {
      done = λ y l. elim (cases_eq m y) [ inl d ↦ subst (λ z. get_or now z 0 ≡ get_or next z 0) d (e ∙ is) | inr d ↦ a.done y (omega arith) ];
      rest = λ y l. a.rest y (omega arith);
      saves = a.saves;
      spare = a.spare;
    })

    module _ (inside : (x v : ℕ) → x < options → In (get_or next x 0) v → In (get_or before x 0) v) (within : m < length now) (apart : get_or now m 0 ≡ get_or (take options next) m 0 → ⊥) where
      less : ones (get_or next m 0) < ones (get_or now m 0)
      less = fewer (get_or next m 0) (get_or now m 0) (λ v i. subst (λ s. In s v) (sym (a.rest m (omega arith))) (inside m v here i)) (λ e. apart (sym e ∙ sym is))

      -- there is room for its save
      pub adopted_room : length us < room
      adopted_room = omega (arith, total_set options now m (get_or next m 0) here within less, a.spare)

      -- a set that changes
      pub adopted_more : (after : List ℕ) (ws : List Saved) → after ≡ set now m (get_or (take options next) m 0) → ws ≡ saved now m ∷ us → Adopted options room next before ts (m + 1) after ws
      adopted_more after ws f g = rw (f ∙ ap (set now m) is, g) (record {
        done = λ y l. elim (cases_eq m y) [
          | inl d ↦ subst (λ z. get_or (set now m (get_or next m 0)) z 0 ≡ get_or next z 0) d (get_or-set_same now m (get_or next m 0) 0 within)
          | inr d ↦ get_or-set_other now m y (get_or next m 0) 0 (λ e. d (sym e)) ∙ a.done y (omega arith)
        ];
        rest = λ y l. let ne : y ≢ m = omega arith in get_or-set_other now m y (get_or next m 0) 0 ne ∙ a.rest y (omega arith);
        saves = more m (get_or next m 0) a.saves here within less;
        spare = omega (arith, total_set options now m (get_or next m 0) here within less, a.spare);
      })

  -- all are those of next
  module _ (few : options ≤ length next) (e : length (take options next) ≤ m) (l : length now ≡ length next) (r : (x : ℕ) → options ≤ x → get_or next x 0 ≡ get_or before x 0) where
    same : (k : ℕ) → get_or now k 0 ≡ get_or next k 0
    same k = elim (cases_lt k m) [ inl h ↦ a.done k h | inr h ↦ a.rest k h ∙ sym (r k (omega (arith, length-take-le options next few))) ]

    pub adopted_all : now ≡ next
    adopted_all = same_lists now next l (λ k d h. get_or_default now k d 0 h ∙ same k ∙ get_or_default next k 0 d (omega arith))
