-- Tests that compute, one for each notion that a trial speaks of, and what each decides.
use Rattle.std.proofs.Common.{◌≡◌, ℕ, zero, suc, ◌<◌, ◌≤◌, Bool, true, false, ◌&&◌, ◌||◌, eqb, leb, List, [], ◌∷◌, length, get_or, Some, Decides, sym, refl, subst, inl, inr, arith}
use Rattle.std.specs.List.{AllByRecursion}
use Rattle.std.proofs.lemmas.Bool.{false≢true, leb-true, le-leb, or_cases, or_left, or_right}
use Rattle.std.proofs.lemmas.Bool.Decides.{Decides-eqb, Decides-and, Decides-like, Decides-below_and}
use Rattle.std.proofs.ByRecursion.{Decides-by_and}
use Rattle.grammar.specs.Contents.{Table, Listed}
use Rattle.values.specs.Members.{In}
use Rattle.values.proofs.Digits.{in_ge, lt_pow}
use Rattle.propagate.specs.Sets.{Sets}
use Rattle.propagate.specs.Support.{Live, Support, Upheld, Closed, is_in, is_live}
use Rattle.propagate.proofs.Living.{is_live_decides}
use Rattle.trials.specs.Trials.{Unspent}

pub decides_leb : (a b : ℕ) → Decides (leb a b) (a ≤ b)
decides_leb a b = (leb-true a b, le-leb a b)

-- every number below n passes
abbrev pub below : ℕ → (ℕ → Bool) → Bool
below zero p = true
below (suc n) p = p n && below n p

pub below_decides : (p : ℕ → Bool) (P : ℕ → Type 0) → ((k : ℕ) → Decides (p k) (P k)) → (n : ℕ) → Decides (below n p) ((k : ℕ) → k < n → P k)
below_decides p P each n = Decides-below_and p P (λ m. below m p) each refl (λ m. refl) n

-- every element passes
abbrev pub every : {X : Type 0} → (X → Bool) → List X → Bool
every p [] = true
every p (x ∷ xs) = p x && every p xs

pub every_decides : {X : Type 0} (p : X → Bool) (P : X → Type 0) → ((x : X) → Decides (p x) (P x)) → (xs : List X) → Decides (every p xs) (AllByRecursion P xs)
every_decides p P each xs = Decides-by_and p P (every p) each refl (λ _ _. refl) xs

abbrev pub implies : Bool → Bool → Bool
implies true q = q
implies false q = true

pub implies_decides : {P Q : Type 0} (p q : Bool) → Decides p P → Decides q Q → Decides (implies p q) (P → Q)
implies_decides true q (f, g) (h, k) = (λ e _. h e, λ imp. k (imp (f refl)))
implies_decides false q (f, g) (h, k) = (λ _ x. absurd (false≢true (g x)), λ _. refl)

-- ---- rows

abbrev pub same_row : List ℕ → List ℕ → Bool
same_row [] [] = true
same_row [] (y ∷ ys) = false
same_row (x ∷ xs) [] = false
same_row (x ∷ xs) (y ∷ ys) = eqb x y && same_row xs ys

pub same_row_decides : (xs ys : List ℕ) → Decides (same_row xs ys) (xs ≡ ys)
same_row_decides [] [] = (λ _. refl, λ _. refl)
same_row_decides [] (y ∷ ys) = (λ e. absurd (false≢true e), λ e. cc)
same_row_decides (x ∷ xs) [] = (λ e. absurd (false≢true e), λ e. cc)
same_row_decides (x ∷ xs) (y ∷ ys) =
    Decides-like (eqb x y && same_row xs ys) (λ (p, q). cc) (λ e. (cc, cc)) (Decides-and (eqb x y) (same_row xs ys) (Decides-eqb x y) (same_row_decides xs ys))

-- some listed row passes
abbrev pub some : (List ℕ → Bool) → List (List ℕ) → Bool
some p [] = false
some p (row ∷ rows) = p row || some p rows

module _ (p : List ℕ → Bool) (P : List ℕ → Type 0) (each : (row : List ℕ) → Decides (p row) (P row)) where
  some_so : (rows : List (List ℕ)) → some p rows ≡ true → (row : List ℕ) × Listed rows row × P row
  some_so [] e = absurd (false≢true e)
  some_so (row ∷ rows) e = elim (or_cases (p row) (some p rows) e) [
    | inl here ↦ (row, (0, omega arith, refl), (each row).0 here)
    | inr later ↦ let (r, (i, l, at), h) = some_so rows later in (r, (suc i, omega arith, at), h)
  ]

  some_if : (rows : List (List ℕ)) (row : List ℕ) (i : ℕ) → i < length rows → get_or rows i [] ≡ row → P row → some p rows ≡ true
  some_if [] row i l at h = absurd (omega arith)
  some_if (r ∷ rows) row zero l at h = or_left (p r) (some p rows) ((each r).1 (subst P (sym at) h))
  some_if (r ∷ rows) row (suc i) l at h = or_right (p r) (some p rows) (some_if rows row i (omega arith) at h)

  pub some_decides : (rows : List (List ℕ)) → Decides (some p rows) ((row : List ℕ) × Listed rows row × P row)
  some_decides rows = (some_so rows, λ (row, (i, l, at), h). some_if rows row i l at h)

abbrev pub lists : List (List ℕ) → List ℕ → Bool
lists rows row = some (λ r. same_row r row) rows

pub lists_decides : (rows : List (List ℕ)) (row : List ℕ) → Decides (lists rows row) (Listed rows row)
lists_decides rows row =
    Decides-like (lists rows row) (λ (r, at, e). subst (Listed rows) e at) (λ at. (row, at, refl)) (some_decides (λ r. same_row r row) (λ r. r ≡ row) (λ r. same_row_decides r row) rows)

-- ---- support

abbrev pub supports : Sets → Table → ℕ → ℕ → Bool
supports sets t j v = some (λ row. is_live sets t.scope row && eqb (get_or row j 0) v) t.rows

pub supports_decides : (sets : Sets) (t : Table) (j v : ℕ) → Decides (supports sets t j v) (Support sets t j v)
supports_decides sets t j v =
    Decides-like (supports sets t j v) (λ (row, at, (alive, e)). (row, at, alive, e)) (λ (row, at, alive, e). (row, at, (alive, e)))
    (some_decides (λ row. is_live sets t.scope row && eqb (get_or row j 0) v) (λ row. Live sets t.scope row × (get_or row j 0 ≡ v))
    (λ row. Decides-and (is_live sets t.scope row) (eqb (get_or row j 0) v) (is_live_decides sets t.scope row) (Decides-eqb (get_or row j 0) v)) t.rows)

abbrev pub upholds : Sets → Table → Bool
upholds sets t =
    below (length t.scope) (λ j. below (sets (get_or t.scope j 0)) (λ v. implies (is_in (sets (get_or t.scope j 0)) v) (supports sets t j v)))

pub member_less : (s v : ℕ) → In s v → v < s
member_less s v h = omega (arith, in_ge s v h, lt_pow v)

pub upholds_decides : (sets : Sets) (t : Table) → Decides (upholds sets t) (Upheld t sets)
upholds_decides sets t =
    Decides-like (upholds sets t) (λ h j v l m. h j l v (member_less (sets (get_or t.scope j 0)) v m) m) (λ h j l v b m. h j v l m)
    (below_decides (λ j. below (sets (get_or t.scope j 0)) (λ v. implies (is_in (sets (get_or t.scope j 0)) v) (supports sets t j v)))
    (λ j. (v : ℕ) → v < sets (get_or t.scope j 0) → In (sets (get_or t.scope j 0)) v → Support sets t j v)
    (λ j. below_decides (λ v. implies (is_in (sets (get_or t.scope j 0)) v) (supports sets t j v)) (λ v. In (sets (get_or t.scope j 0)) v → Support sets t j v)
    (λ v. implies_decides (is_in (sets (get_or t.scope j 0)) v) (supports sets t j v) (Decides-eqb _ 1) (supports_decides sets t j v))
    (sets (get_or t.scope j 0)))
    (length t.scope))

abbrev pub closes : List Table → Sets → Bool
closes tables sets = every (upholds sets) tables

pub closes_decides : (tables : List Table) (sets : Sets) → Decides (closes tables sets) (Closed tables sets)
closes_decides tables sets = every_decides (upholds sets) (λ t. Upheld t sets) (upholds_decides sets) tables

-- ---- the budget

-- fewer trials than the budget have begun
pub unspent : (budget count : ℕ) → count < budget → Unspent (Some budget) count
unspent budget count l e = omega arith
