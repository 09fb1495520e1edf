-- A test for the starting sets that standing decisions leave.
use Rattle.std.proofs.Common.{◌≡◌, ℕ, ◌+◌, ◌<◌, Bool, true, false, not, ◌&&◌, eqb, ltb, List, length, get_or, Decides, sym, refl, ◌∙◌, arith}
use lib.Bits.{bit_or}
use Rattle.std.proofs.lemmas.Bool.{and_parts, not-true, not_from_false, eqb-true}
use Rattle.std.proofs.lemmas.Bool.Decides.{Decides-eqb, Decides-ltb, Decides-like, Decides-and, Decides-not}
use Rattle.grammar.specs.Contents.{Contents}
use Rattle.propagate.specs.Support.{is_in}
use Rattle.sheet.specs.Decisions.{place_of, stands}
use Rattle.sheet.specs.Starts.{ByAny, Leaves, Starts}
use Rattle.sheet.specs.declared.decision.Kind.TheVariants.{Fix, Bar}
use Rattle.sheet.specs.declared.decision.Kind.{Kind}
use Rattle.sheet.proofs.Unions.{any_sound, any_whole}
use Rattle.worked_theorem.proofs.Tests.{below, below_decides, implies, implies_decides, member_less}
use Rattle.worked_theorem.proofs.Boxing.{bare, bare_so}

-- the values of an option about which one person or the other has decided so
abbrev pub union : List ℕ → Kind → ℕ → ℕ
union sets kind x = bit_or (get_or sets (place_of 1 kind x) 0) (get_or sets (place_of 2 kind x) 0)

any_decides : (sets : List ℕ) (kind : Kind) (x v : ℕ) → Decides (is_in (union sets kind x) v) (ByAny (stands sets) kind x v)
any_decides sets kind x v =
    Decides-like (is_in (union sets kind x) v) (any_sound sets kind x (place_of 1 kind x) (place_of 2 kind x) refl refl v) (any_whole sets kind x (place_of 1 kind x) (place_of 2 kind x) refl refl v) (Decides-eqb _ 1)

abbrev pub leaves : List ℕ → ℕ → ℕ → Bool
leaves sets x v = below (union sets Fix x) (λ w. implies (is_in (union sets Fix x) w) (eqb w v)) && not (is_in (union sets Bar x) v)

leaves_decides : (sets : List ℕ) (x v : ℕ) → Decides (leaves sets x v) (Leaves (stands sets) x v)
leaves_decides sets x v =
    Decides-like (leaves sets x v)
    (λ (f, b). record {
      fixed = λ other any. f other (member_less (union sets Fix x) other (any_whole sets Fix x (place_of 1 Fix x) (place_of 2 Fix x) refl refl other any)) any;
      barred = b;
    })
    (λ h. (λ other l any. h.fixed other any, h.barred))
    (Decides-and (below (union sets Fix x) (λ w. implies (is_in (union sets Fix x) w) (eqb w v))) (not (is_in (union sets Bar x) v))
    (below_decides (λ w. implies (is_in (union sets Fix x) w) (eqb w v)) (λ w. ByAny (stands sets) Fix x w → w ≡ v)
    (λ w. implies_decides (is_in (union sets Fix x) w) (eqb w v) (any_decides sets Fix x w) (Decides-eqb w v)) (union sets Fix x))
    (Decides-not (is_in (union sets Bar x) v) (any_decides sets Bar x v)))

abbrev pub alike : Bool → Bool → Bool
alike true b = b
alike false b = not b

alike_decides : (a b : Bool) → Decides (alike a b) (a ≡ b)
alike_decides true b = (λ e. sym e, λ e. sym e)
alike_decides false b = (λ e. sym (not-true b e), λ e. not_from_false b (sym e))

-- a value is in the set just if the option has it and the decisions leave it
abbrev pub left : Contents → List ℕ → ℕ → ℕ → Bool
left c sets x v = ltb v (get_or c.sizes x 0) && leaves sets x v

abbrev pub starts_at : Contents → List ℕ → List ℕ → ℕ → Bool
starts_at c sets array x = below (get_or array x 0 + get_or c.sizes x 0) (λ v. alike (is_in (get_or array x 0) v) (left c sets x v))

abbrev pub starting : Contents → List ℕ → List ℕ → Bool
starting c sets array = eqb (length array) 24 && (below (length c.sizes) (starts_at c sets array) && below (length array) (bare c array))

module _ (c : Contents) (sets array : List ℕ) (e : starting c sets array ≡ true) where
  abbrev parts : (eqb (length array) 24 ≡ true) × (below (length c.sizes) (starts_at c sets array) ≡ true) × (below (length array) (bare c array) ≡ true)
  parts =
      let (p, f) = and_parts (eqb (length array) 24) _ e in
      let (q, r) = and_parts (below (length c.sizes) (starts_at c sets array)) _ f in
      (p, q, r)

  same_at : (x : ℕ) → x < length c.sizes → (v : ℕ) → v < get_or array x 0 + get_or c.sizes x 0 → is_in (get_or array x 0) v ≡ left c sets x v
  same_at =
      (below_decides (starts_at c sets array) (λ x. (v : ℕ) → v < get_or array x 0 + get_or c.sizes x 0 → is_in (get_or array x 0) v ≡ left c sets x v)
      (λ x. below_decides (λ v. alike (is_in (get_or array x 0) v) (left c sets x v)) (λ v. is_in (get_or array x 0) v ≡ left c sets x v) (λ v. alike_decides (is_in (get_or array x 0) v) (left c sets x v)) (get_or array x 0 + get_or c.sizes x 0))
      (length c.sizes)).0 parts.1

  left_decides : (x v : ℕ) → Decides (left c sets x v) ((v < get_or c.sizes x 0) × Leaves (stands sets) x v)
  left_decides x v = Decides-and (ltb v (get_or c.sizes x 0)) (leaves sets x v) (Decides-ltb v (get_or c.sizes x 0)) (leaves_decides sets x v)

  pub starting_so : Starts c (stands sets) array
  starting_so = record {
    long = eqb-true (length array) 24 parts.0;
    sound = λ x v l h. (left_decides x v).0 (sym (same_at x l v (omega (arith, member_less (get_or array x 0) v h))) ∙ (Decides-eqb _ 1).1 h);
    whole = λ x v l b h. (Decides-eqb _ 1).0 (same_at x l v (omega arith) ∙ (left_decides x v).1 (b, h));
    lacking = bare_so c array parts.2;
  }
