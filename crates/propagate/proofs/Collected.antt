-- One more row of a table: the values that have support then, and the count of live rows.
use Rattle.std.proofs.Common.{◌≡◌, ℕ, ◌+◌, ◌%◌, ◌^◌, ◌<◌, ◌≤◌, Bool, true, false, cond, ◌⊎◌, List, [], ◌∷◌, ◌++◌, map, length, get_or, take, replicate, Decides, count_by, sym, refl, ap, ◌∙◌, subst, inl, inr, mod-eq_of_lt, arith}
use lib.Bits.{bit_or}
use Rattle.std.proofs.lemmas.List.{get_or-replicate, get_or_append_left, get_or_push, length_push, get_or-take, map_more}
use Rattle.std.proofs.lemmas.List.Sums.{sum_by_push}
use Rattle.std.proofs.lemmas.Bool.{cases_lt, true≢false}
use Rattle.std.proofs.lemmas.Bool.Decides.{same_from_decides}
use Rattle.grammar.specs.Contents.{Table, Listed}
use Rattle.values.specs.Members.{In}
use Rattle.propagate.specs.Sets.{Sets}
use Rattle.propagate.specs.Support.{Live, Support, is_live}
use Rattle.propagate.specs.Steps.{Collects, table_from}
use Rattle.values.proofs.Digits.{in_either, in_or, in_zero, in_one, in_one_only}
use Rattle.propagate.proofs.Living.{is_live_decides}

module _ (rows : List (List ℕ)) (new : List ℕ) where
  listed_old : (row : List ℕ) → Listed rows row → Listed (rows ++ new ∷ []) row
  listed_old row (i, l, e) = (i, omega (arith, length_push rows new), get_or_append_left rows (new ∷ []) [] i l ∙ e)

  listed_new : Listed (rows ++ new ∷ []) new
  listed_new = (length rows, omega (arith, length_push rows new), get_or_push rows new [] (length rows) refl)

  listed_cases : (row : List ℕ) → Listed (rows ++ new ∷ []) row → Listed rows row ⊎ (new ≡ row)
  listed_cases row (i, l, e) = elim (cases_lt i (length rows)) [
    | inl h ↦ inl (i, h, sym (get_or_append_left rows (new ∷ []) [] i h) ∙ e)
    | inr g ↦ inr (sym (get_or_push rows new [] i (omega (arith, length_push rows new))) ∙ e)
  ]

abbrev with : List ℕ → List (List ℕ) → Table
with scope rows = record { scope = scope; rows = rows }

module _ (sets : Sets) (scope : List ℕ) (rows : List (List ℕ)) (new : List ℕ) where
  support_old : (j v : ℕ) → Support sets (with scope rows) j v → Support sets (with scope (rows ++ new ∷ [])) j v
  support_old j v (row, at, alive, e) = (row, listed_old rows new row at, alive, e)

  -- what has support with the new row has it in the new row, or had it before
  support_cases : (j v : ℕ) → Support sets (with scope (rows ++ new ∷ [])) j v → Support sets (with scope rows) j v ⊎ (Live sets scope new × (get_or new j 0 ≡ v))
  support_cases j v (row, at, alive, e) = elim (listed_cases rows new row at) [
    | inl old ↦ inl (row, old, alive, e)
    | inr is ↦ inr (subst (λ r. Live sets scope r × (get_or r j 0 ≡ v)) (sym is) (alive, e))
  ]

  collects_no : (seen : List ℕ) → (Live sets scope new → ⊥) → Collects sets (with scope rows) seen → Collects sets (with scope (rows ++ new ∷ [])) seen
  collects_no seen dead all = record {
    sound = λ j v l h. support_old j v (all.sound j v l h);
    whole = λ j v l s. elim (support_cases j v s) [ inl t ↦ all.whole j v l t | inr p ↦ absurd (dead p.0) ];
  }

  collects_yes : (seen next : List ℕ) → Live sets scope new
      → ((j : ℕ) → j < length scope → get_or next j 0 ≡ bit_or (get_or seen j 0) (2 ^ get_or new j 0))
      → Collects sets (with scope rows) seen → Collects sets (with scope (rows ++ new ∷ [])) next
  collects_yes seen next alive is all = record {
    sound = λ j v l h. elim (in_either (get_or seen j 0) (2 ^ get_or new j 0) v (subst (λ x. In x v) (is j l) h)) [
      | inl old ↦ support_old j v (all.sound j v l old)
      | inr one ↦ (new, listed_new rows new, alive, sym (in_one_only (get_or new j 0) v one))
    ];
    whole = λ j v l s. subst (λ x. In x v) (sym (is j l)) (in_or (get_or seen j 0) (2 ^ get_or new j 0) v (elim (support_cases j v s) [
      | inl t ↦ inl (all.whole j v l t)
      | inr p ↦ inr (subst (λ x. In (2 ^ get_or new j 0) x) p.1 (in_one _))
    ]));
  }

pub collects_none : (sets : Sets) (scope : List ℕ) → length scope ≤ 4 → Collects sets (with scope []) (replicate 4 0)
collects_none sets scope few = record {
  sound = λ j v l h. absurd (in_zero v (subst (λ x. In x v) (get_or-replicate 4 j 0 0 (omega arith)) h));
  whole = λ j v l s. absurd (omega (arith, s.1.1));
}

-- what the loop over the rows has after m of them
pub record Found (sets : Sets) (scope : List ℕ) (rows : List (List ℕ)) (m : ℕ) (seen : List ℕ) (count : ℕ) : Type 0 where
  pub values : Collects sets (table_from scope (take m rows)) seen
  pub live : count ≡ count_by (is_live sets scope) (table_from scope (take m rows)).rows
  pub few : count ≤ m

module _ (sets : Sets) (scope : List ℕ) (rows : List (List ℕ)) (m : ℕ) (within : m < length rows) (seen : List ℕ) (count : ℕ) where
  n : ℕ
  n = length scope

  row : List ℕ
  row = take (length scope) (get_or rows m [])

  more : map (take (length scope)) (take (m + 1) rows) ≡ map (take (length scope)) (take m rows) ++ take (length scope) (get_or rows m []) ∷ []
  more = map_more (take (length scope)) rows m [] within

  counted : (b : Bool) → Decides b (Live sets scope (take (length scope) (get_or rows m [])))
      → count_by (is_live sets scope) (map (take (length scope)) (take (m + 1) rows)) ≡ count_by (is_live sets scope) (map (take (length scope)) (take m rows)) + cond b 1 0
  counted b d =
      ap (count_by (is_live sets scope)) more
      ∙ sum_by_push (λ r. cond (is_live sets scope r) 1 0) (map (take (length scope)) (take m rows)) (take (length scope) (get_or rows m []))
      ∙ ap (λ t. count_by (is_live sets scope) (map (take (length scope)) (take m rows)) + cond t 1 0) (same_from_decides _ b (is_live_decides sets scope (take (length scope) (get_or rows m []))) d)

  pub found_no : Decides false (Live sets scope (take (length scope) (get_or rows m []))) → Found sets scope rows m seen count → Found sets scope rows (m + 1) seen count
  found_no d old = record {
    values = subst (λ rs. Collects sets (with scope rs) seen) (sym more)
        (collects_no sets scope (map (take (length scope)) (take m rows)) (take (length scope) (get_or rows m [])) seen (λ h. true≢false (sym (d.1 h))) old.values);
    live = omega (arith, old.live, counted false d);
    few = omega (arith, old.few);
  }

  pub found_yes : (next : List ℕ) (counted-now : ℕ) → counted-now ≡ count + 1 → Decides true (Live sets scope (take (length scope) (get_or rows m [])))
      → ((j : ℕ) → j < length scope → get_or next j 0 ≡ bit_or (get_or seen j 0) (2 ^ (get_or (get_or rows m []) j 0 % 32)))
      → ((j : ℕ) → j < length scope → get_or (get_or rows m []) j 0 < 32)
      → Found sets scope rows m seen count → Found sets scope rows (m + 1) next counted-now
  found_yes next counted-now one d is small old = record {
    values = subst (λ rs. Collects sets (with scope rs) next) (sym more)
        (collects_yes sets scope (map (take (length scope)) (take m rows)) (take (length scope) (get_or rows m [])) seen next (d.0 refl)
        (λ j l. is j l ∙ ap (λ v. bit_or (get_or seen j 0) (2 ^ v)) (mod-eq_of_lt (small j l) ∙ sym (get_or-take (length scope) (get_or rows m []) j 0 l))) old.values);
    live = omega (arith, old.live, counted true d);
    few = omega (arith, old.few);
  }
