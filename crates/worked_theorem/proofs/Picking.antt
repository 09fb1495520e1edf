-- Tests for the pick, and for the fit where each option has one value.
use Rattle.std.proofs.Common.{◌≡◌, ℕ, ◌^◌, ◌<◌, ◌≤◌, Bool, true, not, ◌&&◌, eqb, ltb, leb, List, length, get_or, inl, inr}
use Rattle.std.proofs.lemmas.Bool.{cases_lt, and_parts, ltb-true, leb-true, eqb-true}
use Rattle.std.proofs.lemmas.Bool.Decides.{Decides-eqb, Decides-ltb, Decides-not}
use Rattle.grammar.specs.Contents.{Contents}
use Rattle.values.specs.Members.{In, Lowest}
use Rattle.propagate.specs.Support.{is_in}
use Rattle.trials.specs.Picks.{size_at, Picked, Single}
use Rattle.worked_theorem.proofs.Tests.{decides_leb, below, below_decides, implies, implies_decides}

abbrev pub is_lowest : ℕ → ℕ → Bool
is_lowest s v = is_in s v && below v (λ w. not (is_in s w))

is_lowest_so : (s v : ℕ) → is_lowest s v ≡ true → Lowest s v
is_lowest_so s v e =
    let (m, none) = and_parts (is_in s v) _ e in
    let out = (below_decides (λ w. not (is_in s w)) (λ w. In s w → ⊥) (λ w. Decides-not (is_in s w) (Decides-eqb _ 1)) v).0 none in
    record {
      member = (Decides-eqb _ 1).0 m;
      lowest = λ w h. elim (cases_lt w v) [ inl l ↦ absurd (out w l h) | inr g ↦ g ];
    }

abbrev pub no_fewer : List ℕ → ℕ → ℕ → Bool
no_fewer array x y = implies (leb 2 (size_at array y)) (leb (size_at array x) (size_at array y))

abbrev pub more : List ℕ → ℕ → ℕ → Bool
more array x y = implies (leb 2 (size_at array y)) (ltb (size_at array x) (size_at array y))

abbrev pub picks : Contents → List ℕ → ℕ → ℕ → Bool
picks c array x v =
    ltb x (length c.sizes) && (leb 2 (size_at array x) && (below (length c.sizes) (no_fewer array x) && (below x (more array x) && is_lowest (get_or array x 0) v)))

pub picks_so : (c : Contents) (array : List ℕ) (x v : ℕ) → picks c array x v ≡ true → Picked c array x v
picks_so c array x v e =
    let (p, f) = and_parts (ltb x (length c.sizes)) _ e in
    let (q, g) = and_parts (leb 2 (size_at array x)) _ f in
    let (r, h) = and_parts (below (length c.sizes) (no_fewer array x)) _ g in
    let (u, w) = and_parts (below x (more array x)) _ h in
    record {
      known = ltb-true x (length c.sizes) p;
      two = leb-true 2 (size_at array x) q;
      fewest = (below_decides (no_fewer array x) (λ y. 2 ≤ size_at array y → size_at array x ≤ size_at array y)
          (λ y. implies_decides (leb 2 (size_at array y)) (leb (size_at array x) (size_at array y)) (decides_leb 2 (size_at array y)) (decides_leb (size_at array x) (size_at array y)))
          (length c.sizes)).0 r;
      first = (below_decides (more array x) (λ y. 2 ≤ size_at array y → size_at array x < size_at array y)
          (λ y. implies_decides (leb 2 (size_at array y)) (ltb (size_at array x) (size_at array y)) (decides_leb 2 (size_at array y)) (Decides-ltb (size_at array x) (size_at array y)))
          x).0 u;
      lowest = is_lowest_so (get_or array x 0) v w;
    }

abbrev pub is_single : Contents → List ℕ → List ℕ → Bool
is_single c array values = eqb (length values) (length c.sizes) && below (length c.sizes) (λ x. eqb (get_or array x 0) (2 ^ get_or values x 0))

pub is_single_so : (c : Contents) (array values : List ℕ) → is_single c array values ≡ true → Single c array values
is_single_so c array values e =
    let (p, q) = and_parts (eqb (length values) (length c.sizes)) _ e in
    record {
      each = eqb-true (length values) (length c.sizes) p;
      only = (below_decides (λ x. eqb (get_or array x 0) (2 ^ get_or values x 0)) (λ x. get_or array x 0 ≡ 2 ^ get_or values x 0) (λ x. Decides-eqb (get_or array x 0) (2 ^ get_or values x 0)) (length c.sizes)).0 q;
    }
