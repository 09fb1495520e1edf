-- The values of a set as a list.
use Rattle.std.proofs.Common.{◌≡◌, ℕ, zero, suc, ◌+◌, ◌/◌, ◌%◌, ◌^◌, ◌<◌, Bool, true, false, cond, eqb, List, [], ◌∷◌, length, sym, refl, ap, ◌∙◌, subst, inl, inr, pow-suc, arith}
use lib.Count.{ones, ones_step}
use Rattle.std.proofs.lemmas.Bool.{true≢false}
use Rattle.std.proofs.lemmas.Bool.Decides.{Decides-eqb}
use Rattle.values.specs.Members.{In}
use Rattle.values.proofs.Digits.{in_suc, in_half, ones_zero}
use Rattle.reduce.proofs.Distinct.{Among, Distinct}

-- each o more than it is; k is how many digits are looked at
abbrev pub members : ℕ → ℕ → ℕ → List ℕ
members zero s o = []
members (suc k) s o = cond (eqb (s % 2) 1) (o ∷ members k (s / 2) (suc o)) (members k (s / 2) (suc o))

pub among_members : (k s o w : ℕ) → w < k → In s w → Among (o + w) (members k s o)
among_members zero s o w l h = absurd (omega arith)
among_members (suc k) s o zero l h = go (eqb (s % 2) 1) refl
  where
    go : (b : Bool) → eqb (s % 2) 1 ≡ b → Among (o + 0) (cond b (o ∷ members k (s / 2) (suc o)) (members k (s / 2) (suc o)))
    go true e = inl (omega arith)
    go false e = absurd (true≢false (sym ((Decides-eqb (s % 2) 1).1 (omega arith)) ∙ e))
among_members (suc k) s o (suc w) l h = go (eqb (s % 2) 1) (among_members k (s / 2) (suc o) w (omega arith) (in_half s w h))
  where
    at : suc o + w ≡ o + suc w
    at = omega arith

    go : (b : Bool) → Among (suc o + w) (members k (s / 2) (suc o)) → Among (o + suc w) (cond b (o ∷ members k (s / 2) (suc o)) (members k (s / 2) (suc o)))
    go true m = inr (subst (λ v. Among v (members k (s / 2) (suc o))) at m)
    go false m = subst (λ v. Among v (members k (s / 2) (suc o))) at m

pub members_in : (k s o v : ℕ) → Among v (members k s o) → (w : ℕ) × (v ≡ o + w) × In s w
members_in zero s o v h = absurd h
members_in (suc k) s o v h = go (eqb (s % 2) 1) refl (members_in k (s / 2) (suc o) v) h
  where
    later : (w : ℕ) × (v ≡ suc o + w) × In (s / 2) w → (w : ℕ) × (v ≡ o + w) × In s w
    later (w, e, i) = (suc w, omega arith, in_suc s w i)

    go : (b : Bool) → eqb (s % 2) 1 ≡ b → (Among v (members k (s / 2) (suc o)) → (w : ℕ) × (v ≡ suc o + w) × In (s / 2) w)
        → Among v (cond b (o ∷ members k (s / 2) (suc o)) (members k (s / 2) (suc o))) → (w : ℕ) × (v ≡ o + w) × In s w
    go true e ih (inl f) = (0, omega arith, omega (arith, (Decides-eqb (s % 2) 1).0 e))
    go true e ih (inr m) = later (ih m)
    go false e ih m = later (ih m)

pub members_distinct : (k s o : ℕ) → Distinct (members k s o)
members_distinct zero s o = tt
members_distinct (suc k) s o = go (eqb (s % 2) 1) (members_distinct k (s / 2) (suc o))
  where
    go : (b : Bool) → Distinct (members k (s / 2) (suc o)) → Distinct (cond b (o ∷ members k (s / 2) (suc o)) (members k (s / 2) (suc o)))
    go true d = (λ h. omega (arith, (members_in k (s / 2) (suc o) o h).1), d)
    go false d = d

pub length_members : (k s o : ℕ) → s < 2 ^ k → length (members k s o) ≡ ones s
length_members zero s o h = sym (ap ones {x = s} {y = 0} (omega arith) ∙ ones_zero)
length_members (suc k) s o h = go (eqb (s % 2) 1) refl (length_members k (s / 2) (suc o) (omega (arith, pow-suc 2 k)))
  where
    go : (b : Bool) → eqb (s % 2) 1 ≡ b → length (members k (s / 2) (suc o)) ≡ ones (s / 2)
        → length (cond b (o ∷ members k (s / 2) (suc o)) (members k (s / 2) (suc o))) ≡ ones s
    go true e ih = omega (arith, ih, ones_step s, (Decides-eqb (s % 2) 1).0 e)
    go false e ih =
        let odd : s % 2 ≡ 1 → ⊥ = λ f. true≢false (sym ((Decides-eqb (s % 2) 1).1 f) ∙ e) in
        omega (arith, ih, ones_step s, odd)
