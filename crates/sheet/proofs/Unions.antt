-- Sets of values about which one person or the other has decided.
use Rattle.std.proofs.Common.{◌≡◌, ℕ, zero, suc, ◌/◌, ◌%◌, ◌^◌, Bool, true, false, cond, leb, ◌⊎◌, List, get_or, sym, refl, ap, ◌∙◌, subst, inl, inr, ⊎_elim, arith, eq-eqb, eqb-true, leb-true}
use lib.Bits.{bit_or}
use borrow.Author.Tests.{clash}
use Rattle.values.specs.Members.{In}
use Rattle.values.proofs.Digits.{in_one_only, in_either, in_or, no_values, same_from_values, in_one}
use Rattle.sheet.specs.declared.decision.Kind.{Kind}
use Rattle.sheet.specs.Decisions.{place_of, stands, is_person}
use Rattle.sheet.specs.declared.decision.Kind.TheVariants.{Fix, Bar}
use Rattle.sheet.specs.Starts.{Standing, ByAny, Leaves, Spares}

second : (a b : Bool) → cond a b false ≡ true → b ≡ true
second true b e = e
second false b e = absurd (clash e)

pub person_cases : {P : Type 0} (p : ℕ) → is_person p ≡ true → (p ≡ 1 → P) → (p ≡ 2 → P) → P
person_cases zero e one two = absurd (clash e)
person_cases (suc zero) e one two = one refl
person_cases (suc (suc zero)) e one two = two refl
person_cases (suc (suc (suc p))) e one two = let h = leb-true (suc (suc (suc p))) 2 (second (leb 1 (suc (suc (suc p)))) (leb (suc (suc (suc p))) 2) e) in absurd (omega arith)

module _ (sets : List ℕ) (kind : Kind) (option one two : ℕ) (e : one ≡ place_of 1 kind option) (f : two ≡ place_of 2 kind option) where
  pub any_sound : (v : ℕ) → In (bit_or (get_or sets one 0) (get_or sets two 0)) v → ByAny (stands sets) kind option v
  any_sound v h = ⊎_elim
      (λ i. (1, refl, eq-eqb _ 1 (subst (λ k. In (get_or sets k 0) v) e i)))
      (λ i. (2, refl, eq-eqb _ 1 (subst (λ k. In (get_or sets k 0) v) f i)))
      (in_either (get_or sets one 0) (get_or sets two 0) v h)

  pub any_whole : (v : ℕ) → ByAny (stands sets) kind option v → In (bit_or (get_or sets one 0) (get_or sets two 0)) v
  any_whole v h =
      let is : In (get_or sets (place_of h.0 kind option) 0) v = eqb-true _ 1 h.2 in
      person_cases h.0 h.1
      (λ p. in_or (get_or sets one 0) (get_or sets two 0) v (inl (subst (λ k. In (get_or sets k 0) v) (ap (λ q. place_of q kind option) p ∙ sym e) is)))
      (λ p. in_or (get_or sets one 0) (get_or sets two 0) v (inr (subst (λ k. In (get_or sets k 0) v) (ap (λ q. place_of q kind option) p ∙ sym f) is)))

-- the sets of the values fixed and barred by any leave a value where the decisions do
module _ (decided : Standing) (option fixed barred : ℕ) where
  pub spared_leaves : ((v : ℕ) → ByAny decided Fix option v → In fixed v) → ((v : ℕ) → ByAny decided Bar option v → In barred v) → (v : ℕ) → Spares fixed barred v → Leaves decided option v
  spared_leaves f b v s = record { fixed = λ w h. s.alone w (f w h); barred = λ h. s.allowed (b v h) }

  pub left_spares : ((v : ℕ) → In fixed v → ByAny decided Fix option v) → ((v : ℕ) → In barred v → ByAny decided Bar option v) → (v : ℕ) → Leaves decided option v → Spares fixed barred v
  left_spares f b v l = record { alone = λ w h. l.fixed w (f w h); allowed = λ h. l.barred (b v h) }

-- a set that has no value but one is empty or the set of that value
pub alone_is : (s v : ℕ) → ((w : ℕ) → In s w → w ≡ v) → (s ≡ 0) ⊎ (s ≡ 2 ^ v)
alone_is s v only = go (s / 2 ^ v % 2) refl
  where
    go : (d : ℕ) → s / 2 ^ v % 2 ≡ d → (s ≡ 0) ⊎ (s ≡ 2 ^ v)
    go zero is = inl (no_values s (λ w i. let e : w ≡ v = only w i in let j : In s v = subst (In s) e i in omega arith))
    go (suc zero) is = inr (same_from_values s (2 ^ v) (λ w i. subst (In (2 ^ v)) (sym (only w i)) (in_one v)) (λ w i. subst (In s) (sym (in_one_only v w i)) is))
    go (suc (suc d)) is = absurd (omega arith)
