-- The two halves of some sets: the fits inside the sets are those inside the halves.
use Rattle.std.proofs.Common.{◌≡◌, ℕ, ◌-◌, ◌%◌, ◌^◌, ◌<◌, ◌⊎◌, List, length, get_or, set, sym, ap, ◌∙◌, subst, inl, inr, arith}
use lib.Bits.{bit_and, bit_xor, xor_add_and}
use Rattle.std.proofs.lemmas.List.{get_or-set_same, get_or-set_other}
use Rattle.std.proofs.lemmas.Bool.{cases_eq}
use Rattle.grammar.specs.Contents.{Contents}
use Rattle.values.specs.Members.{In}
use Rattle.values.proofs.Digits.{in_one, in_one_only, in_both, in_and, in_mod, mod_in, out_in, in_out, same_from_values}
use Rattle.propagate.specs.Laws.{Within}
use Rattle.trials.specs.Trials.{cut_to, cut_from}

-- a value of a set taken out of it
less_is : (s v : ℕ) → In s v → s - 2 ^ v ≡ bit_xor s (2 ^ v)
less_is s v h =
    let e : bit_and s (2 ^ v) ≡ 2 ^ v = same_from_values (bit_and s (2 ^ v)) (2 ^ v) (λ w m. (in_both s (2 ^ v) w m).1) (λ w m. in_and s (2 ^ v) w (subst (In s) (sym (in_one_only v w m)) h) m) in
    omega (arith, e, xor_add_and s (2 ^ v))

pub less_in : (s v w : ℕ) → In s v → In (s - 2 ^ v) w → In s w
less_in s v w h m = (out_in s v w h (subst (λ n. In n w) (less_is s v h) m)).0

pub in_less : (s v w : ℕ) → In s v → In s w → (w ≡ v → ⊥) → In (s - 2 ^ v) w
in_less s v w h m ne = subst (λ n. In n w) (sym (less_is s v h)) (in_out s v w m ne)

module _ (c : Contents) (next : List ℕ) (x : ℕ) (low : x < length next) where
  -- with a smaller set at one option
  module _ (s : ℕ) where
    pub smaller_within : ((w : ℕ) → In s w → In (get_or next x 0) w) → (values : List ℕ) → Within c (set next x s) values → Within c next values
    smaller_within part values inside y l = elim (cases_eq y x) [
      | inl e ↦
          let here = in_mod (get_or (set next x s) y 0) (get_or c.sizes y 0) (get_or values y 0) (inside y l) in
          mod_in (get_or next y 0) (get_or c.sizes y 0) (get_or values y 0) here.1
          (subst (λ z. In (get_or next z 0) (get_or values y 0)) (sym e) (part (get_or values y 0) (subst (λ n. In n (get_or values y 0)) (ap (λ z. get_or (set next x s) z 0) e ∙ get_or-set_same next x s 0 low) here.0)))
      | inr ne ↦ subst (λ n. In (n % 2 ^ get_or c.sizes y 0) (get_or values y 0)) (get_or-set_other next x y s 0 ne) (inside y l)
    ]

    pub within_smaller : (values : List ℕ) → In s (get_or values x 0) → Within c next values → Within c (set next x s) values
    within_smaller values one inside y l = elim (cases_eq y x) [
      | inl e ↦
          mod_in (get_or (set next x s) y 0) (get_or c.sizes y 0) (get_or values y 0) (in_mod (get_or next y 0) (get_or c.sizes y 0) (get_or values y 0) (inside y l)).1
          (subst (λ n. In n (get_or values y 0)) (sym (ap (λ z. get_or (set next x s) z 0) e ∙ get_or-set_same next x s 0 low)) (subst (λ z. In s (get_or values z 0)) (sym e) one))
      | inr ne ↦ subst (λ n. In (n % 2 ^ get_or c.sizes y 0) (get_or values y 0)) (sym (get_or-set_other next x y s 0 ne)) (inside y l)
    ]

  module _ (v : ℕ) (has : In (get_or next x 0) v) (values : List ℕ) where
    pub left_within : Within c (cut_to next x v) values → Within c next values
    left_within = smaller_within (2 ^ v) (λ w m. subst (In (get_or next x 0)) (sym (in_one_only v w m)) has) values

    pub right_within : Within c (cut_from next x v) values → Within c next values
    right_within = smaller_within (get_or next x 0 - 2 ^ v) (λ w m. less_in (get_or next x 0) v w has m) values

    pub within_half : x < length c.sizes → Within c next values → Within c (cut_to next x v) values ⊎ Within c (cut_from next x v) values
    within_half known inside = elim (cases_eq (get_or values x 0) v) [
      | inl e ↦ inl (within_smaller (2 ^ v) values (subst (In (2 ^ v)) (sym e) (in_one v)) inside)
      | inr ne ↦ inr (within_smaller (get_or next x 0 - 2 ^ v) values (in_less (get_or next x 0) v (get_or values x 0) has (in_mod (get_or next x 0) (get_or c.sizes x 0) (get_or values x 0) (inside x known)).0 ne) inside)
    ]
