-- From the array that the rounds work on to what propagation promises of the array that it was given.
use Rattle.std.proofs.Common.{◌≡◌, ℕ, ◌-◌, ◌%◌, ◌^◌, ◌<◌, ◌≤◌, List, [], ◌∷◌, length, get_or, sym, refl, ap, ◌∙◌, subst, inl, inr, mod-eq_of_lt, arith}
use Rattle.std.specs.List.{AllByRecursion}
use Rattle.std.proofs.lemmas.List.{get_or_past}
use Rattle.std.proofs.lemmas.Bool.{cases_lt}
use Rattle.grammar.specs.Contents.{Table, Contents, ValidTable, Valid}
use Rattle.values.specs.Members.{In}
use Rattle.propagate.specs.Sets.{Sets, Inside, placed, sets_of}
use Rattle.propagate.specs.Support.{Closed}
use Rattle.propagate.specs.Propagation.{Propagated, LeavesNone, Settled}
use Rattle.propagate.specs.Steps.{Trimmed, Reached}
use Rattle.values.proofs.Digits.{in_mod, below_from_values, full_in}
use Rattle.propagate.proofs.Cuts.{upheld_like}

-- an option that the book lacks has no value
pub none_past : (c : Contents) (array : List ℕ) (x v : ℕ) → length c.sizes ≤ x → In (sets_of c array x) v → ⊥
none_past c array x v past h = omega (arith, (in_mod (get_or array x 0) (get_or c.sizes x 0) v h).1, get_or_past c.sizes x 0 past)

-- sets that agree on the options of the book
pub closed_like : (sizes : List ℕ) (a b : Sets) → ((x : ℕ) → x < length sizes → a x ≡ b x) → (tables : List Table) → AllByRecursion (ValidTable sizes) tables → Closed tables a → Closed tables b
closed_like sizes a b same [] ok up = tt
closed_like sizes a b same (t ∷ ts) ok up = (upheld_like t a b (λ j l. same (get_or t.scope j 0) (ok.0.known j l)) up.0, closed_like sizes a b same ts ok.1 up.1)

pub settled_like : (sizes : List ℕ) (a b : Sets) → ((x : ℕ) → x < length sizes → a x ≡ b x) → (pending : ℕ) (tables : List Table) → AllByRecursion (ValidTable sizes) tables → Settled tables a pending → Settled tables b pending
settled_like sizes a b same pending [] ok up = tt
settled_like sizes a b same pending (t ∷ ts) ok up =
    (λ clear. upheld_like t a b (λ j l. same (get_or t.scope j 0) (ok.0.known j l)) (up.0 clear), settled_like sizes a b same pending ts ok.1 up.1)

-- every table has an option, so all options are enough to look at
pub settled_all : (sizes : List ℕ) (sets : Sets) → length sizes ≤ 32 → (tables : List Table) → AllByRecursion (ValidTable sizes) tables → Settled tables sets (2 ^ 32 - 1)
settled_all sizes sets few [] ok = tt
settled_all sizes sets few (t ∷ ts) ok =
    (λ clear. absurd (clear (get_or t.scope 0 0) (0, ok.0.some, refl) (full_in 32 (get_or t.scope 0 0) (omega (arith, ok.0.known 0 ok.0.some)))), settled_all sizes sets few ts ok.1)

module _ (c : Contents) (start trimmed : List ℕ) (trim : Trimmed c start trimmed) where
  into : (other : Sets) → Inside other (sets_of c start) → Inside other (placed trimmed)
  into other h x v m = elim (cases_lt x (length c.sizes)) [
    | inl l ↦ subst (λ n. In n v) (sym (trim.values x l)) (h x v m)
    | inr g ↦ absurd (none_past c start x v g (h x v m))
  ]

  pub settled_at : Valid c → (pending : ℕ) → Settled c.tables (sets_of c start) pending → Settled c.tables (placed trimmed) pending
  settled_at ok pending = settled_like c.sizes (sets_of c start) (placed trimmed) (λ x l. sym (trim.values x l)) pending c.tables ok.tables

  pub leaves_none_at : LeavesNone c (placed trimmed) → LeavesNone c (sets_of c start)
  leaves_none_at (x, l, none) = (x, l, λ other h k v m. none other (into other h) k v m)

  pub propagated : Valid c → (end : List ℕ) → Reached c trimmed end → Propagated c start end
  propagated ok end r = record {
    largest = record {
      inside = λ x v h. elim (cases_lt x (length c.sizes)) [
        | inl l ↦ back x v l (subst (λ n. In n v) (sym (exact x l)) h)
        | inr g ↦ absurd (none_past c end x v g h)
      ];
      closed = closed_like c.sizes (placed end) (sets_of c end) exact c.tables ok.tables r.largest.closed;
      largest = λ other h k x v m. elim (cases_lt x (length c.sizes)) [
        | inl l ↦ subst (λ n. In n v) (exact x l) (r.largest.largest other (into other h) k x v m)
        | inr g ↦ absurd (none_past c start x v g (h x v m))
      ];
    };
    some = r.some;
    exact = exact;
    rest = λ x g. r.rest x g ∙ trim.rest x g;
  }
    where
      back : (x v : ℕ) → x < length c.sizes → In (get_or end x 0) v → In (sets_of c start x) v
      back x v l h = subst (λ n. In n v) (trim.values x l) (r.largest.inside x v h)

      exact : (x : ℕ) → x < length c.sizes → get_or end x 0 ≡ sets_of c end x
      exact x l = sym (mod-eq_of_lt (below_from_values (get_or end x 0) (get_or c.sizes x 0) (λ v h. (in_mod (get_or start x 0) (get_or c.sizes x 0) v (back x v l h)).1)))

-- Sets that differ from closed ones at some options only are settled but for these.
pub settled_after : (c : Contents) → Valid c → (a b : List ℕ) → Closed c.tables (sets_of c a) → (pending : ℕ) → ((x : ℕ) → x < length c.sizes → (In pending x → ⊥) → get_or a x 0 ≡ get_or b x 0) → Settled c.tables (sets_of c b) pending
settled_after c ok a b closed pending same = go c.tables ok.tables closed
  where
    go : (tables : List Table) → AllByRecursion (ValidTable c.sizes) tables → Closed tables (sets_of c a) → Settled tables (sets_of c b) pending
    go [] ok up = tt
    go (t ∷ ts) ok up = (
      λ clear. upheld_like t (sets_of c a) (sets_of c b)
          (λ j l. ap (λ s. s % 2 ^ get_or c.sizes (get_or t.scope j 0) 0) (same (get_or t.scope j 0) (ok.0.known j l) (clear (get_or t.scope j 0) (j, l, refl)))) up.0,
      go ts ok.1 up.1,
    )
