-- Sets of one value each: every table is universal in them exactly where the values are a listed row of each.
use Rattle.std.proofs.Common.{◌≡◌, ℕ, zero, suc, ◌%◌, ◌^◌, ◌<◌, ◌≤◌, List, [], ◌∷◌, length, get_or, take, sym, ap, ◌∙◌, subst, mod-eq_of_lt, arith}
use lib.Pow.{pow-lt}
use Rattle.std.specs.List.{AllByRecursion}
use Rattle.std.proofs.lemmas.List.{length-take-le}
use Rattle.grammar.specs.Contents.{Table, Contents, Fit, Listed, on_scope, ValidTable, Valid}
use Rattle.values.specs.Members.{In}
use Rattle.values.proofs.Digits.{in_one}
use Rattle.propagate.specs.Sets.{Sets, sets_of}
use Rattle.propagate.proofs.Fits.{live_on, single_row}
use Rattle.reduce.specs.Universal.{Universal, UniversalAt}
use Rattle.sheet.specs.Starts.{Standing, Starts, Leaves, MeetsAll}
use Rattle.order.specs.Issues.{Issues}

abbrev no_table : Table
no_table = record { scope = []; rows = [] }

module _ (sizes : List ℕ) (sets : Sets) (values : List ℕ) (one : (x : ℕ) → x < length sizes → sets x ≡ 2 ^ get_or values x 0) where
  listed_if : (t : Table) → ValidTable sizes t → Universal sets t → Listed t.rows (on_scope values t.scope)
  listed_if t ok u =
      u (on_scope values t.scope)
      (live_on sets values t.scope (λ j l. subst (λ s. In s (get_or values (get_or t.scope j 0) 0)) (sym (one (get_or t.scope j 0) (ok.known j l))) (in_one _)))

  universal_if : (t : Table) → ValidTable sizes t → Listed t.rows (on_scope values t.scope) → Universal sets t
  universal_if t ok at row live = subst (Listed t.rows) (sym (single_row sets values t.scope row (λ j l. one (get_or t.scope j 0) (ok.known j l)) live)) at

  all_listed : (tables : List Table) → AllByRecursion (ValidTable sizes) tables → ((i : ℕ) → i < length tables → Universal sets (get_or tables i no_table)) → AllByRecursion (λ t. Listed t.rows (on_scope values t.scope)) tables
  all_listed [] ok u = tt
  all_listed (t ∷ ts) ok u = (listed_if t ok.0 (u 0 (omega arith)), all_listed ts ok.1 (λ i l. u (suc i) (omega arith)))

  listed_all : (tables : List Table) → AllByRecursion (ValidTable sizes) tables → AllByRecursion (λ t. Listed t.rows (on_scope values t.scope)) tables → (i : ℕ) → i < length tables → Universal sets (get_or tables i no_table)
  listed_all [] ok at i l = absurd (omega arith)
  listed_all (t ∷ ts) ok at zero l = universal_if t ok.0 at.0
  listed_all (t ∷ ts) ok at (suc i) l = listed_all ts ok.1 at.1 i (omega arith)

-- the values in the first places of a slice, against the sets that standing decisions leave
module _ (c : Contents) (valid : Valid c) (stands : Standing) (start : List ℕ) (starts : Starts c stands start) (slice : List ℕ) (room : length c.sizes ≤ length slice) (values : List ℕ) (cut : values ≡ take (length c.sizes) slice) where
  each : length values ≡ length c.sizes
  each = ap length cut ∙ length-take-le (length c.sizes) slice room

  module _ (inside : (x : ℕ) → x < length values → (get_or values x 0 < 32) × In (get_or start x 0) (get_or values x 0)) where
    left : (x : ℕ) → x < length c.sizes → (get_or values x 0 < get_or c.sizes x 0) × Leaves stands x (get_or values x 0)
    left x l = starts.sound x (get_or values x 0) l (inside x (omega (arith, each))).1

    module _ (array : List ℕ) (single : (x : ℕ) → x < length values → get_or array x 0 ≡ 2 ^ get_or values x 0) where
      one : (x : ℕ) → x < length c.sizes → sets_of c array x ≡ 2 ^ get_or values x 0
      one x l = ap (λ s. s % 2 ^ get_or c.sizes x 0) (single x (omega (arith, each))) ∙ mod-eq_of_lt (pow-lt (left x l).0)

      pub issues_if : ((i : ℕ) → i < length c.tables → UniversalAt c (sets_of c array) i) → Issues c stands slice
      issues_if u = record {
        fit = subst (Fit c) cut (record {
          each = each;
          within = λ x l. (left x l).0;
          listed = all_listed c.sizes (sets_of c array) values one c.tables valid.tables (λ i l. (u i l).1);
        });
        meets = subst (MeetsAll c stands) cut (λ x l. (left x l).1);
      }

      pub if_issues : Issues c stands slice → (i : ℕ) → i < length c.tables → UniversalAt c (sets_of c array) i
      if_issues s i l = (l, listed_all c.sizes (sets_of c array) values one c.tables valid.tables (subst (Fit c) (sym cut) s.fit).listed i l)
