-- A test for the box of some sets: tables are universal if every combination is listed.
use Rattle.std.proofs.Common.{◌≡◌, ℕ, zero, suc, ◌<◌, ◌≤◌, Bool, true, false, cond, ◌&&◌, ◌||◌, eqb, leb, List, [], ◌∷◌, length, get_or, Decides, sym, refl, ◌∙◌, inl, inr}
use Rattle.std.proofs.lemmas.List.{get_or_past}
use Rattle.std.proofs.lemmas.Bool.{cases_lt, cases_Bool, and_parts, cond-true, cond-false, eqb-true}
use Rattle.std.proofs.lemmas.Bool.Decides.{Decides-eqb, Decides-like, Decides-or, Decides-below_or}
use Rattle.grammar.specs.Contents.{Table, Contents, Listed}
use Rattle.boxes.specs.declared.ValueBox.{ValueBox}
use Rattle.values.specs.Members.{In}
use Rattle.propagate.specs.Sets.{Sets, sets_of}
use Rattle.propagate.specs.Support.{Mentions, Live, is_in}
use Rattle.reduce.specs.Boxes.{LeftOut, BoxOf}
use Rattle.reduce.specs.Universal.{Universal, Free}
use Rattle.trials.specs.Trials.{Boxed}
use Rattle.worked_theorem.proofs.Tests.{decides_leb, below, below_decides, every, every_decides, implies, implies_decides, lists, lists_decides, member_less}

-- every combination of values from a scope's sets passes
abbrev pub covers : (List ℕ → Bool) → Sets → List ℕ → Bool
covers f sets [] = f []
covers f sets (x ∷ scope) = below (sets x) (λ v. implies (is_in (sets x) v) (covers (λ row. f (v ∷ row)) sets scope))

abbrev Covered : (List ℕ → Type 0) → Sets → List ℕ → Type 0
Covered F sets scope = (row : List ℕ) → Live sets scope row → F row

only_empty : (F : List ℕ → Type 0) (sets : Sets) → F [] → Covered F sets []
only_empty F sets h [] alive = h
only_empty F sets h (v ∷ row) alive = absurd alive

one_more : (F : List ℕ → Type 0) (sets : Sets) (x : ℕ) (scope : List ℕ) → ((v : ℕ) → v < sets x → In (sets x) v → Covered (λ row. F (v ∷ row)) sets scope) → Covered F sets (x ∷ scope)
one_more F sets x scope h [] alive = absurd alive
one_more F sets x scope h (v ∷ row) alive = h v (member_less (sets x) v alive.0) alive.0 row alive.1

pub covers_decides : (f : List ℕ → Bool) (F : List ℕ → Type 0) → ((row : List ℕ) → Decides (f row) (F row)) → (sets : Sets) (scope : List ℕ) → Decides (covers f sets scope) (Covered F sets scope)
covers_decides f F each sets [] = Decides-like (f []) (only_empty F sets) (λ h. h [] tt) (each [])
covers_decides f F each sets (x ∷ scope) =
    Decides-like (covers f sets (x ∷ scope)) (one_more F sets x scope) (λ h v l m row alive. h (v ∷ row) (m, alive))
    (below_decides (λ v. implies (is_in (sets x) v) (covers (λ row. f (v ∷ row)) sets scope)) (λ v. In (sets x) v → Covered (λ row. F (v ∷ row)) sets scope)
    (λ v. implies_decides (is_in (sets x) v) (covers (λ row. f (v ∷ row)) sets scope) (Decides-eqb _ 1) (covers_decides (λ row. f (v ∷ row)) (λ row. F (v ∷ row)) (λ row. each (v ∷ row)) sets scope))
    (sets x))

abbrev pub is_universal : Sets → Table → Bool
is_universal sets t = covers (lists t.rows) sets t.scope

pub is_universal_decides : (sets : Sets) (t : Table) → Decides (is_universal sets t) (Universal sets t)
is_universal_decides sets t = covers_decides (lists t.rows) (Listed t.rows) (lists_decides t.rows) sets t.scope

-- some number below n passes
abbrev pub below_some : ℕ → (ℕ → Bool) → Bool
below_some zero p = false
below_some (suc n) p = p n || below_some n p

abbrev pub mentions : List ℕ → ℕ → Bool
mentions scope x = below_some (length scope) (λ j. eqb (get_or scope j 0) x)

mentions_decides : (scope : List ℕ) (x : ℕ) → Decides (mentions scope x) (Mentions scope x)
mentions_decides scope x =
    Decides-below_or (λ j. eqb (get_or scope j 0) x) (λ j. get_or scope j 0 ≡ x) (λ n. below_some n (λ j. eqb (get_or scope j 0) x)) (λ j. Decides-eqb (get_or scope j 0) x) refl (λ _. refl) (length scope)

abbrev pub is_free : Sets → List Table → ℕ → Bool
is_free sets tables x = every (λ t. implies (mentions t.scope x) (is_universal sets t)) tables

is_free_decides : (sets : Sets) (tables : List Table) (x : ℕ) → Decides (is_free sets tables x) (Free sets tables x)
is_free_decides sets tables x =
    every_decides (λ t. implies (mentions t.scope x) (is_universal sets t)) (λ t. Mentions t.scope x → Universal sets t)
    (λ t. implies_decides (mentions t.scope x) (is_universal sets t) (mentions_decides t.scope x) (is_universal_decides sets t)) tables

abbrev pub is_whole : Contents → List ℕ → ℕ → Bool
is_whole c array x = below (get_or c.sizes x 0) (λ v. is_in (sets_of c array x) v)

abbrev pub is_left_out : Contents → List ℕ → ℕ → Bool
is_left_out c array x = is_whole c array x || is_free (sets_of c array) c.tables x

is_left_out_decides : (c : Contents) (array : List ℕ) (x : ℕ) → Decides (is_left_out c array x) (LeftOut c array x)
is_left_out_decides c array x =
    Decides-or (is_whole c array x) (is_free (sets_of c array) c.tables x)
    (below_decides (λ v. is_in (sets_of c array x) v) (λ v. In (sets_of c array x) v) (λ v. Decides-eqb _ 1) (get_or c.sizes x 0))
    (is_free_decides (sets_of c array) c.tables x)

-- what the box has for an option of the book
abbrev pub noted : Contents → List ℕ → List ℕ → ℕ → Bool
noted c array sets x = cond (is_left_out c array x) (eqb (get_or sets x 0) 0) (eqb (get_or sets x 0) (sets_of c array x))

-- and for the others
abbrev pub bare : Contents → List ℕ → ℕ → Bool
bare c sets x = implies (leb (length c.sizes) x) (eqb (get_or sets x 0) 0)

abbrev pub is_box : Contents → List ℕ → List ℕ → Bool
is_box c array sets = below (length c.sizes) (noted c array sets) && below (length sets) (bare c sets)

pub bare_so : (c : Contents) (sets : List ℕ) → below (length sets) (bare c sets) ≡ true → (x : ℕ) → length c.sizes ≤ x → get_or sets x 0 ≡ 0
bare_so c sets e x g = elim (cases_lt x (length sets)) [
  | inl l ↦
      (below_decides (bare c sets) (λ x. length c.sizes ≤ x → get_or sets x 0 ≡ 0)
      (λ x. implies_decides (leb (length c.sizes) x) (eqb (get_or sets x 0) 0) (decides_leb (length c.sizes) x) (Decides-eqb (get_or sets x 0) 0))
      (length sets)).0 e x l g
  | inr past ↦ get_or_past sets x 0 past
]

module _ (c : Contents) (array sets : List ℕ) (e : is_box c array sets ≡ true) where
  within : (x : ℕ) → x < length c.sizes → noted c array sets x ≡ true
  within =
      (below_decides (noted c array sets) (λ x. noted c array sets x ≡ true) (λ x. (λ h. h, λ h. h)) (length c.sizes)).0
      (and_parts (below (length c.sizes) (noted c array sets)) _ e).0

  pub is_box_so : BoxOf c array sets
  is_box_so = record {
    left_out = λ x l out. eqb-true (get_or sets x 0) 0 (sym (cond-true (is_left_out c array x) _ _ ((is_left_out_decides c array x).1 out)) ∙ within x l);
    recorded = λ x l kept. elim (cases_Bool (is_left_out c array x)) [
      | inl out ↦ absurd (kept ((is_left_out_decides c array x).0 out))
      | inr not ↦ eqb-true (get_or sets x 0) (sets_of c array x) (sym (cond-false (is_left_out c array x) _ _ not) ∙ within x l)
    ];
    lacking = bare_so c sets (and_parts (below (length c.sizes) (noted c array sets)) _ e).1;
  }

pub boxed_so : (c : Contents) (array : List ℕ) (b : ValueBox) → is_box c array b.sets ≡ true → length b.sets ≡ 24 → Boxed c array b
boxed_so c array b e long = record { box = is_box_so c array b.sets e; long = long }
