-- The bits of fields that stand one behind another.
use Rattle.std.proofs.Common.{◌≡◌, ℕ, ◌+◌, ◌-◌, List, [], ◌∷◌, ◌++◌, length, Some, None, Option, sym, refl, ap, ◌∙◌, append_assoc, add-zero, arith, length-append}
use Rattle.std.specs.List.{AllByRecursion}
use Rattle.std.proofs.ByRecursion.{All-append}
use Rattle.bits.proofs.Packs.{Bit, all_spell}
use Rattle.book_fields.specs.Fields.{layout}
use Rattle.draft.specs.Entries.{Entry}
use Rattle.draft.specs.Encoding.{in_bits, code, spelt}

pub spelt_none : (at : ℕ) → spelt at [] ≡ []
unfolding spelt
spelt_none at = refl

pub spelt_cons : (at : ℕ) (e : Entry) (es : List Entry) → spelt at (e ∷ es) ≡ code e at ++ spelt (at + length (code e at)) es
unfolding spelt
spelt_cons at e es = refl

pub spelt_append : (at : ℕ) (xs ys : List Entry) → spelt at (xs ++ ys) ≡ spelt at xs ++ spelt (at + length (spelt at xs)) ys
unfolding spelt
spelt_append at [] ys = ap (λ k. spelt k ys) (sym (add-zero at))
spelt_append at (e ∷ xs) ys =
    let one = code e at in
    let mid = at + length one in
    let on : mid + length (spelt mid xs) ≡ at + length (one ++ spelt mid xs) = omega (arith, length-append one (spelt mid xs)) in
    ap (λ l. one ++ l) (spelt_append mid xs ys ∙ ap (λ k. spelt mid xs ++ spelt k ys) on)
    ∙ sym (append_assoc one (spelt mid xs) (spelt (at + length (one ++ spelt mid xs)) ys))

pub length_spelt_append : (at : ℕ) (xs ys : List Entry) → length (spelt at (xs ++ ys)) ≡ length (spelt at xs) + length (spelt (at + length (spelt at xs)) ys)
length_spelt_append at xs ys = ap length (spelt_append at xs ys) ∙ length-append (spelt at xs) (spelt (at + length (spelt at xs)) ys)

all_in_bits : (v : ℕ) (l : Option (ℕ × ℕ)) → AllByRecursion Bit (in_bits v l)
all_in_bits v None = tt
all_in_bits v (Some l) = all_spell l.0 (v - l.1)

pub all_spelt : (at : ℕ) (es : List Entry) → AllByRecursion Bit (spelt at es)
unfolding spelt
all_spelt at [] = tt
all_spelt at (e ∷ es) = All-append Bit (code e at) (spelt (at + length (code e at)) es) (all_in_bits e.1 (layout e.0 at)) (all_spelt (at + length (code e at)) es)
