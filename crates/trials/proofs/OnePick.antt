-- There is one pick, and none where each option has one value.
use Rattle.std.proofs.Common.{◌≡◌, ℕ, List, get_or, sym, ap, ◌∙◌, subst, inl, inr, arith}
use lib.Count.{ones}
use Rattle.std.proofs.lemmas.List.{ext_get_or}
use Rattle.std.proofs.lemmas.Bool.{cases_order}
use Rattle.grammar.specs.Contents.{Contents}
use Rattle.values.specs.Members.{Lowest}
use Rattle.trials.specs.Picks.{Picked, Single}
use Rattle.trials.proofs.OneValue.{one_value, same_value}

one_lowest : (s v w : ℕ) → Lowest s v → Lowest s w → v ≡ w
one_lowest s v w p q = omega (arith, p.lowest w q.member, q.lowest v p.member)

module _ (c : Contents) (array : List ℕ) where
  pub one_option : (x y v w : ℕ) → Picked c array x v → Picked c array y w → x ≡ y
  one_option x y v w p q = elim (cases_order x y) [
    | inl e ↦ e
    | inr s ↦ elim s [
      | inl l ↦ absurd (omega (arith, q.first x l p.two, p.fewest y q.known q.two))
      | inr g ↦ absurd (omega (arith, p.first y g q.two, q.fewest x p.known p.two))
    ]
  ]

  pub one_pick : (x y v w : ℕ) → Picked c array x v → Picked c array y w → v ≡ w
  one_pick x y v w p q =
      one_lowest (get_or array y 0) v w (subst (λ x. Lowest (get_or array x 0) v) (one_option x y v w p q) p.lowest) q.lowest

  pub none_to_pick : (values : List ℕ) (x v : ℕ) → Single c array values → Picked c array x v → ⊥
  none_to_pick values x v s p = omega (arith, p.two, ap ones (s.only x p.known), one_value (get_or values x 0))

  pub one_single : (a b : List ℕ) → Single c array a → Single c array b → a ≡ b
  one_single a b s t =
      ext_get_or 0 a b (s.each ∙ sym t.each)
      (λ x l. same_value (get_or a x 0) (get_or b x 0) (sym (s.only x (omega (arith, s.each))) ∙ t.only x (omega (arith, s.each))))
