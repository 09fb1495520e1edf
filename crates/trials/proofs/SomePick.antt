-- Sets that are not empty have a pick, or one value for each option.
use Rattle.std.proofs.Common.{◌≡◌, ℕ, zero, suc, ◌^◌, ◌<◌, ◌≤◌, ◌⊎◌, List, length, get_or, subst, inl, inr, arith}
use lib.Count.{count_trailing_zeros}
use Rattle.std.proofs.lemmas.Bool.{cases_lt}
use Rattle.grammar.specs.Contents.{Contents}
use Rattle.values.specs.Members.{Lowest}
use Rattle.values.proofs.Digits.{lt_pow, trailing_member, trailing_lowest}
use Rattle.trials.specs.Picks.{size_at, Picked, Single}
use Rattle.trials.proofs.OneValue.{some_ones, the_value}
use Rattle.trials.proofs.Choosing.{chosen}

-- the pick among the options below m
record Best (array : List ℕ) (m x : ℕ) : Type 0 where
  known : x < m
  two : 2 ≤ size_at array x
  fewest : (y : ℕ) → y < m → 2 ≤ size_at array y → size_at array x ≤ size_at array y
  first : (y : ℕ) → y < x → 2 ≤ size_at array y → size_at array x < size_at array y

module _ (array : List ℕ) where
  -- one more option that has fewer than two values, or no fewer than the best
  kept : (m x : ℕ) → (2 ≤ size_at array m → size_at array x ≤ size_at array m) → Best array m x → Best array (suc m) x
  kept m x h b = record {
    known = omega (arith, b.known);
    two = b.two;
    fewest = λ y l t. elim (cases_lt y m) [
      | inl g ↦ b.fewest y g t
      | inr g ↦ subst (λ y. 2 ≤ size_at array y → size_at array x ≤ size_at array y) {x = m} {y = y} (omega arith) h t
    ];
    first = b.first;
  }

  -- one more option that has fewer values than all before it
  newest : (m : ℕ) → 2 ≤ size_at array m → ((y : ℕ) → y < m → 2 ≤ size_at array y → size_at array m < size_at array y) → Best array (suc m) m
  newest m two h = record {
    known = omega arith;
    two = two;
    fewest = λ y l t. elim (cases_lt y m) [
      | inl g ↦ omega (arith, h y g t)
      | inr g ↦ subst (λ y. size_at array m ≤ size_at array y) {x = m} {y = y} (omega arith) (omega arith)
    ];
    first = h;
  }

  best : (m : ℕ) → ((x : ℕ) → x < m → size_at array x < 2) ⊎ ((x : ℕ) × Best array m x)
  best zero = inl (λ x l. absurd (omega arith))
  best (suc m) = elim (best m) [
    | inl none ↦ elim (cases_lt (size_at array m) 2) [
      | inl few ↦ inl (λ x l. elim (cases_lt x m) [ inl g ↦ none x g | inr g ↦ subst (λ x. size_at array x < 2) {x = m} {y = x} (omega arith) few ])
      | inr two ↦ inr (m, newest m two (λ y l t. absurd (omega (arith, none y l))))
    ]
    | inr b ↦ elim (cases_lt (size_at array m) 2) [
      | inl few ↦ inr (b.0, kept m b.0 (λ t. absurd (omega arith)) b.1)
      | inr two ↦ elim (cases_lt (size_at array m) (size_at array b.0)) [
        | inl less ↦ inr (m, newest m two (λ y l t. omega (arith, b.1.fewest y l t)))
        | inr no_less ↦ inr (b.0, kept m b.0 (λ _. no_less) b.1)
      ]
    ]
  ]

some_lowest : (s : ℕ) → 0 < s → Lowest s (count_trailing_zeros s s)
some_lowest s p = record { member = trailing_member s s (lt_pow s) p; lowest = trailing_lowest s s }

pub single_or_picked : (c : Contents) (array : List ℕ) → ((x : ℕ) → x < length c.sizes → 0 < get_or array x 0)
    → ((values : List ℕ) × Single c array values) ⊎ ((x : ℕ) × (v : ℕ) × Picked c array x v)
single_or_picked c array some = elim (best array (length c.sizes)) [
  | inl few ↦
      let r = chosen (λ x v. get_or array x 0 ≡ 2 ^ v) (length c.sizes) (λ x l. the_value (get_or array x 0) (omega (arith, few x l, some_ones (get_or array x 0) (some x l)))) in
      inl (r.0, record { each = r.1; only = r.2 })
  | inr b ↦
      let s = get_or array b.0 0 in
      inr (
        b.0,
        count_trailing_zeros s s,
        record {
          known = b.1.known;
          two = b.1.two;
          fewest = b.1.fewest;
          first = b.1.first;
          lowest = some_lowest s (some b.0 b.1.known);
        },
      )
]
