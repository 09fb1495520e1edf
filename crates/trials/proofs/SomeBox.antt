-- Sets have a box, and one alone.
use Rattle.std.proofs.Common.{◌≡◌, ℕ, ◌/◌, ◌%◌, ◌^◌, ◌<◌, ◌≤◌, ◌⊎◌, List, length, get_or, count_by, sym, refl, ap, ◌∙◌, inl, inr, lt_of_lt_of_le, mod-lt, arith, pow_pos, pow_mono}
use Rattle.std.proofs.ByRecursion.{All-get_or, All-from_get_or}
use Rattle.std.proofs.lemmas.List.{get_or_past}
use Rattle.std.proofs.lemmas.Bool.{cases_eq, cases_lt}
use Rattle.grammar.specs.Contents.{Table, Contents, ValidTable, Valid}
use Rattle.boxes.specs.declared.ValueBox.{ValueBox}
use Rattle.values.specs.Members.{In}
use Rattle.propagate.specs.Sets.{sets_of}
use Rattle.propagate.specs.Support.{Mentions, is_live}
use Rattle.book.proofs.Sizes.{size_most}
use Rattle.reduce.specs.Universal.{Universal, Free, ways}
use Rattle.reduce.specs.Boxes.{LeftOut}
use Rattle.reduce.proofs.Changes.{one_box}
use Rattle.reduce.proofs.Combinations.{universal_if, count_if}
use Rattle.trials.specs.Trials.{Boxed}
use Rattle.trials.proofs.Choosing.{all_or_some, chosen}
use Rattle.trials.proofs.SomeSupport.{blank}

-- an array has one box
pub same_box : (c : Contents) (array : List ℕ) (a b : ValueBox) → Boxed c array a → Boxed c array b → a ≡ b
same_box c array a b p q = ap (λ (sets : List ℕ). record { sets = sets }) (one_box c array a.sets b.sets (p.long ∙ sym q.long) p.box q.box)

mentions_or_not : (scope : List ℕ) (x : ℕ) → Mentions scope x ⊎ (Mentions scope x → ⊥)
mentions_or_not scope x = elim (all_or_some (λ j. get_or scope j 0 ≡ x → ⊥) (λ j. get_or scope j 0 ≡ x) (length scope) (λ j l. elim (cases_eq (get_or scope j 0) x) [ inl e ↦ inr e | inr ne ↦ inl ne ])) [
  | inl none ↦ inr (λ (j, l, e). none j l e)
  | inr q ↦ inl q
]

module _ (c : Contents) (ok : Valid c) (array : List ℕ) where
  small : (x : ℕ) → sets_of c array x < 2 ^ 32
  small x = lt_of_lt_of_le (mod-lt (get_or array x 0) (pow_pos (get_or c.sizes x 0))) (pow_mono (elim (cases_lt x (length c.sizes)) [
    | inl l ↦ (size_most c ok x l).1
    | inr g ↦ omega (arith, get_or_past c.sizes x 0 g)
  ]))

  universal_or_not : (t : Table) → ValidTable c.sizes t → Universal (sets_of c array) t ⊎ (Universal (sets_of c array) t → ⊥)
  universal_or_not t valid = elim (cases_eq (count_by (is_live (sets_of c array) t.scope) t.rows) (ways (sets_of c array) t.scope)) [
    | inl e ↦ inl (universal_if 32 (sets_of c array) small t valid.apart e)
    | inr ne ↦ inr (λ u. ne (count_if 32 (sets_of c array) small t valid.apart u))
  ]

  -- the table rules nothing out, or it has the option and does
  loose_or_not : (x : ℕ) (t : Table) → ValidTable c.sizes t → (Mentions t.scope x → Universal (sets_of c array) t) ⊎ ((Mentions t.scope x → Universal (sets_of c array) t) → ⊥)
  loose_or_not x t valid = elim (universal_or_not t valid) [
    | inl u ↦ inl (λ _. u)
    | inr not ↦ elim (mentions_or_not t.scope x) [ inl m ↦ inr (λ h. not (h m)) | inr out ↦ inl (λ m. absurd (out m)) ]
  ]

  free_or_not : (x : ℕ) → Free (sets_of c array) c.tables x ⊎ (Free (sets_of c array) c.tables x → ⊥)
  free_or_not x = elim (all_or_some (λ i. Loose (get_or c.tables i blank)) (λ i. Loose (get_or c.tables i blank) → ⊥) (length c.tables) (λ i l. loose_or_not x (get_or c.tables i blank) (All-get_or (ValidTable c.sizes) c.tables i blank l ok.tables))) [
    | inl all ↦ inl (All-from_get_or Loose c.tables blank all)
    | inr q ↦ inr (λ free. q.2 (All-get_or Loose c.tables q.0 blank q.1 free))
  ]
    where
      Loose : Table → Type 0
      Loose t = Mentions t.scope x → Universal (sets_of c array) t

  left_out_or_not : (x : ℕ) → LeftOut c array x ⊎ (LeftOut c array x → ⊥)
  left_out_or_not x = elim (all_or_some (λ v. In (sets_of c array x) v) (λ v. In (sets_of c array x) v → ⊥) (get_or c.sizes x 0) (λ v l. cases_eq (sets_of c array x / 2 ^ v % 2) 1)) [
    | inl whole ↦ inl (inl whole)
    | inr q ↦ elim (free_or_not x) [
      | inl free ↦ inl (inr free)
      | inr tied ↦ inr (λ h. elim h [ inl whole ↦ q.2 (whole q.0 q.1) | inr free ↦ tied free ])
    ]
  ]

  -- what the box has at the place of an option
  record Noted (x n : ℕ) : Type 0 where
    left_out : x < length c.sizes → LeftOut c array x → n ≡ 0
    recorded : x < length c.sizes → (LeftOut c array x → ⊥) → n ≡ sets_of c array x
    lacking : length c.sizes ≤ x → n ≡ 0

  noted : (x : ℕ) → (n : ℕ) × Noted x n
  noted x = elim (left_out_or_not x) [
    | inl out ↦ (0, record { left_out = λ _ _. refl; recorded = λ _ not. absurd (not out); lacking = λ _. refl })
    | inr not ↦ elim (cases_lt x (length c.sizes)) [
      | inl l ↦ (sets_of c array x, record { left_out = λ _ out. absurd (not out); recorded = λ _ _. refl; lacking = λ g. absurd (omega arith) })
      | inr g ↦ (0, record { left_out = λ l. absurd (omega arith); recorded = λ l. absurd (omega arith); lacking = λ _. refl })
    ]
  ]

  pub some_box : (b : ValueBox) × Boxed c array b
  some_box =
      let r = chosen Noted 24 (λ x _. noted x) in
      let at : (x : ℕ) → x < length c.sizes → Noted x (get_or r.0 x 0) = λ x l. r.2 x (omega (arith, ok.few)) in (
        record { sets = r.0 },
        record {
          box = record {
            left_out = λ x l. (at x l).left_out l;
            recorded = λ x l. (at x l).recorded l;
            lacking = λ x g. elim (cases_lt x 24) [ inl l ↦ (r.2 x l).lacking g | inr past ↦ get_or_past r.0 x 0 (omega (arith, r.1)) ];
          };
          long = r.1;
        },
      )
