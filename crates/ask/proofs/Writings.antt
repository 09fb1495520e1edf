-- The only value of each set, written one after another.
use Rattle.std.proofs.Common.{◌≡◌, ℕ, ◌+◌, ◌^◌, ◌<◌, ◌≤◌, ◌≢◌, List, length, get_or, take, set, sym, refl, ap, ◌∙◌, subst, inl, inr, arith, get_or-set_other, get_or-take, get_or-set_same}
use lib.Count.{ones}
use Rattle.std.proofs.lemmas.Nat.{pow_pos}
use Rattle.std.proofs.lemmas.List.{length-take-le}
use Rattle.std.proofs.lemmas.Bool.{cases_eq}
use Rattle.grammar.specs.Contents.{Contents}
use Rattle.values.specs.Members.{In, Lowest}
use Rattle.values.proofs.Digits.{in_one_only}
use Rattle.trials.specs.Picks.{Single}
use Rattle.trail.proofs.Fewer.{fewer}
use Rattle.branching.proofs.Singles.{some_value}

-- the only value of a set
pub only_value : (s v : ℕ) → ones s ≡ 1 → In s v → s ≡ 2 ^ v
only_value s v e i =
    elim (cases_eq s (2 ^ v)) [
      | inl d ↦ d
      | inr d ↦ absurd (omega (arith, e, some_value (2 ^ v) (pow_pos v), fewer (2 ^ v) s (λ w j. subst (λ n. In s n) (sym (in_one_only v w j)) i) (λ f. d (sym f))))
    ]

-- the first m values are written
pub record Writing (array before : List ℕ) (m : ℕ) (now : List ℕ) : Type 0 where
  pub done : (y : ℕ) → y < m → get_or array y 0 ≡ 2 ^ get_or now y 0
  pub rest : (y : ℕ) → m ≤ y → get_or now y 0 ≡ get_or before y 0

pub writing_none : (array before : List ℕ) → Writing array before 0 before
writing_none array before = record { done = λ y l. absurd (omega arith); rest = λ y l. refl }

pub writing_more : (array before : List ℕ) (m : ℕ) (now : List ℕ) (v : ℕ) → Writing array before m now → m < length now → ones (get_or array m 0) ≡ 1 → Lowest (get_or array m 0) v
    → Writing array before (m + 1) (set now m v)
writing_more array before m now v w l e low = record {
  done = λ y h. elim (cases_eq m y) [
    | inl d ↦ subst (λ z. get_or array z 0 ≡ 2 ^ get_or (set now m v) z 0) d (only_value (get_or array m 0) v e low.member ∙ sym (ap (λ n. 2 ^ n) (get_or-set_same now m v 0 l)))
    | inr d ↦ w.done y (omega arith) ∙ sym (ap (λ n. 2 ^ n) (get_or-set_other now m y v 0 (λ f. d (sym f))))
  ];
  rest = λ y h. let ne : y ≢ m = omega arith in get_or-set_other now m y v 0 ne ∙ w.rest y (omega arith);
}

pub written : (c : Contents) (array before now : List ℕ) (m : ℕ) → Writing array before m now → m ≡ length c.sizes → length c.sizes ≤ length now → Single c array (take (length c.sizes) now)
written c array before now m w e l = record {
  each = length-take-le (length c.sizes) now l;
  only = λ x h. w.done x (omega arith) ∙ sym (ap (λ n. 2 ^ n) (get_or-take (length c.sizes) now x 0 h));
}
