-- Propagation has an end: values without support are taken out, one after another, until none is left or an option has none.
use Rattle.std.proofs.Common.{◌≡◌, ℕ, zero, suc, ◌-◌, ◌^◌, ◌<◌, ◌≤◌, ◌⊎◌, List, length, get_or, set, sum, sym, refl, ap, ◌∙◌, subst, inl, inr, arith, pow_pos}
use native.Mathlib.Nat.{mod-le}
use Rattle.std.proofs.ByRecursion.{All-get_or}
use Rattle.std.proofs.lemmas.List.{get_or-set_same, get_or-set_other, get_or_past, length-set}
use Rattle.std.proofs.lemmas.List.Sums.{sum_by-set}
use Rattle.std.proofs.lemmas.Bool.{cases_eq, cases_lt}
use Rattle.grammar.specs.Contents.{Table, Contents, ValidTable, Valid}
use Rattle.values.specs.Members.{In}
use Rattle.values.proofs.Digits.{in_ge, in_zero}
use Rattle.propagate.specs.Sets.{Sets, Inside, placed, sets_of}
use Rattle.propagate.specs.Support.{Support, Upheld, Closed}
use Rattle.propagate.specs.Propagation.{LeavesNone}
use Rattle.propagate.specs.Steps.{Trimmed, Reached}
use Rattle.propagate.proofs.Cuts.{support_inside}
use Rattle.propagate.proofs.Sweeps.{leaves_none}
use Rattle.propagate.proofs.Ends.{propagated, leaves_none_at}
use Rattle.trials.specs.Trials.{Narrows}
use Rattle.trials.proofs.Choosing.{all_or_some, chosen, sum_le}
use Rattle.trials.proofs.Halves.{less_in, in_less}
use Rattle.trials.proofs.SomeSupport.{Lacks, blank, closed_or_not}

-- Nothing is put in, and nothing that sets with this property have is taken out.
pub record Shrinks (C : Sets → Type 0) (before after : List ℕ) : Type 0 where
  pub smaller : Inside (placed after) (placed before)
  pub keeps : (other : Sets) → Inside other (placed before) → C other → Inside other (placed after)

pub none_out : {C : Sets → Type 0} (now : List ℕ) → Shrinks C now now
none_out now = record { smaller = λ x v h. h; keeps = λ other h _. h }

pub more_out : {C : Sets → Type 0} {a b d : List ℕ} → Shrinks C a b → Shrinks C b d → Shrinks C a d
more_out p q = record { smaller = λ x v h. p.smaller x v (q.smaller x v h); keeps = λ other h k. q.keeps other (p.keeps other h k) k }

-- with another property, from which the first follows
pub weaker : {C D : Sets → Type 0} {a b : List ℕ} → ((other : Sets) → D other → C other) → Shrinks C a b → Shrinks D a b
weaker f p = record { smaller = p.smaller; keeps = λ other h d. p.keeps other h (f other d) }

module _ (t : Table) (j v : ℕ) (now : List ℕ) (lack : Lacks t (placed now) j v) where
  abbrev option : ℕ
  option = get_or t.scope j 0

  abbrev were : ℕ
  were = get_or now (get_or t.scope j 0) 0

  abbrev out : List ℕ
  out = set now option (were - 2 ^ v)

  here : get_or out option 0 ≡ were - 2 ^ v
  here = get_or-set_same now option (were - 2 ^ v) 0 (elim (cases_lt option (length now)) [
    | inl l ↦ l
    | inr g ↦ absurd (in_zero v (subst (λ n. In n v) (get_or_past now option 0 g) lack.member))
  ])

  -- a value without support is taken out
  pub one_out : Shrinks (Upheld t) now (set now (get_or t.scope j 0) (get_or now (get_or t.scope j 0) 0 - 2 ^ v))
  one_out = record {
    smaller = λ y w h. elim (cases_eq y option) [
      | inl e ↦ subst (λ y. In (get_or now y 0) w) (sym e) (less_in were v w lack.member (subst (λ n. In n w) (ap (λ y. get_or out y 0) e ∙ here) h))
      | inr ne ↦ subst (λ n. In n w) (get_or-set_other now option y (were - 2 ^ v) 0 ne) h
    ];
    keeps = λ other inside up y w h. elim (cases_eq y option) [
      | inl e ↦
          let mine : In (other option) w = subst (λ y. In (other y) w) e h in
          let apart : w ≡ v → ⊥ = λ q. lack.none (subst (Support (placed now) t j) q (support_inside other (placed now) t j w inside (up j w lack.place mine))) in
          subst (λ n. In n w) (sym (ap (λ y. get_or out y 0) e ∙ here)) (in_less were v w lack.member (inside option w mine) apart)
      | inr ne ↦ subst (λ n. In n w) (sym (get_or-set_other now option y (were - 2 ^ v) 0 ne)) (inside y w h)
    ];
  }

-- some values were taken out, none that closed sets have
record Shrunk (c : Contents) (before now : List ℕ) : Type 0 where
  shrinks : Shrinks (Closed c.tables) before now
  rest : (x : ℕ) → length c.sizes ≤ x → get_or now x 0 ≡ get_or before x 0
  long : length now ≡ length before
  less : sum now ≤ sum before

module _ (c : Contents) (ok : Valid c) (before : List ℕ) (long : length before ≡ 24) where
  none_yet : Shrunk c before before
  none_yet = record { shrinks = none_out before; rest = λ x l. refl; long = refl; less = omega arith }

  module _ (now : List ℕ) (old : Shrunk c before now) (i : ℕ) (in-book : i < length c.tables) (j v : ℕ) (lack : Lacks (get_or c.tables i blank) (placed now) j v) where
    abbrev x : ℕ
    x = get_or (get_or c.tables i blank).scope j 0

    abbrev s : ℕ
    s = get_or now (get_or (get_or c.tables i blank).scope j 0) 0

    known : x < length c.sizes
    known = (All-get_or (ValidTable c.sizes) c.tables i blank in-book ok.tables).known j lack.place

    low : x < length now
    low = omega (arith, known, ok.few, old.long)

    one_fewer : Shrunk c before (set now x (s - 2 ^ v))
    one_fewer = record {
      shrinks = more_out old.shrinks (weaker (λ other. All-get_or (λ t. Upheld t other) c.tables i blank in-book) (one_out (get_or c.tables i blank) j v now lack));
      rest = λ y g. get_or-set_other now x y (s - 2 ^ v) 0 (omega (arith, known)) ∙ old.rest y g;
      long = length-set now x (s - 2 ^ v) ∙ old.long;
      less = omega (arith, old.less, sum_by-set (λ n. n) now x (s - 2 ^ v) 0 low);
    }

    one_less : sum (set now x (s - 2 ^ v)) < sum now
    one_less = omega (arith, sum_by-set (λ n. n) now x (s - 2 ^ v) 0 low, in_ge s v lack.member, pow_pos v)

  shrink : (fuel : ℕ) (now : List ℕ) → Shrunk c before now → sum now < fuel → (end : List ℕ) × Shrunk c before end × Closed c.tables (placed end)
  shrink zero now old h = absurd (omega arith)
  shrink (suc fuel) now old h = elim (closed_or_not c.tables (placed now)) [
    | inl closed ↦ (now, old, closed)
    | inr (i, l, q) ↦ shrink fuel (set now (get_or (get_or c.tables i blank).scope q.0 0) (get_or now (get_or (get_or c.tables i blank).scope q.0 0) 0 - 2 ^ q.1)) (one_fewer now old i l q.0 q.1 q.2) (omega (arith, one_less now old i l q.0 q.1 q.2))
  ]

  reached : LeavesNone c (placed before) ⊎ ((end : List ℕ) × Reached c before end × (length end ≡ length before) × (sum end ≤ sum before))
  reached =
      let r = shrink (suc (sum before)) before none_yet (omega arith) in
      let end = r.0 in
      elim (all_or_some (λ x. 0 < get_or end x 0) (λ x. get_or end x 0 ≡ 0) (length c.sizes) (λ x l. elim (cases_eq (get_or end x 0) 0) [ inl e ↦ inr e | inr ne ↦ inl (omega arith) ])) [
        | inl some ↦ inr (end, record { largest = record { inside = r.1.shrinks.smaller; closed = r.2; largest = r.1.shrinks.keeps }; some = some; rest = r.1.rest }, r.1.long, r.1.less)
        | inr q ↦ inl (leaves_none c before end r.1.shrinks.keeps q.0 q.1 q.2)
      ]

-- ---- the values that options lack are taken out first

module _ (c : Contents) (ok : Valid c) (start : List ℕ) (long : length start ≡ 24) where
  trims : (x : ℕ) → (y : ℕ) × ((x < length c.sizes → y ≡ sets_of c start x) × (length c.sizes ≤ x → y ≡ get_or start x 0) × (y ≤ get_or start x 0))
  trims x = elim (cases_lt x (length c.sizes)) [
    | inl l ↦ (sets_of c start x, (λ _. refl, λ g. absurd (omega arith), mod-le (get_or start x 0) (2 ^ get_or c.sizes x 0)))
    | inr g ↦ (get_or start x 0, (λ l. absurd (omega arith), λ _. refl, omega arith))
  ]

  trimmed : (now : List ℕ) × Trimmed c start now × (length now ≡ 24) × (sum now ≤ sum start)
  trimmed =
      let r = chosen (λ x y. (x < length c.sizes → y ≡ sets_of c start x) × (length c.sizes ≤ x → y ≡ get_or start x 0) × (y ≤ get_or start x 0)) 24 (λ x l. trims x) in (
        r.0,
        record {
          values = λ x l. (r.2 x (omega (arith, ok.few))).0 l;
          rest = λ x g. elim (cases_lt x 24) [ inl l ↦ (r.2 x l).1 g | inr past ↦ get_or_past r.0 x 0 (omega (arith, r.1)) ∙ sym (get_or_past start x 0 (omega arith)) ];
        },
        r.1,
        sum_le r.0 start (r.1 ∙ sym long) (λ x l. (r.2 x (omega (arith, r.1))).2),
      )

  pub narrows_or_empties : LeavesNone c (sets_of c start) ⊎ ((next : List ℕ) × Narrows c start next × (sum next ≤ sum start))
  narrows_or_empties =
      let r = trimmed in
      elim (reached c ok r.0 r.2) [
        | inl none ↦ inl (leaves_none_at c start r.0 r.1 none)
        | inr q ↦ inr (q.0, record { propagated = propagated c start r.0 r.1 ok q.0 q.1; long = q.2 ∙ r.2 ∙ sym long }, omega (arith, q.3, r.3))
      ]
