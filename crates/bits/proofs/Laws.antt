-- The laws of bits and numbers that the proofs of reader, writer and round trip share.
use Rattle.std.proofs.Common.{◌≡◌, ℕ, zero, suc, ◌+◌, ◌-◌, ◌*◌, ◌/◌, ◌%◌, ◌^◌, ◌<◌, ◌≤◌, List, [], ◌∷◌, ◌++◌, length, get_or, take, drop, sym, refl, ap, ◌∙◌, ⊎_elim, mod-eq_of_lt, mul_assoc, one-add, arith, length-append, length-drop, get_or-drop, pow-add}
use lib.Bits.{bit_and, and_mask}
use lib.Seq.{drop-nil}
use lib.Pow.{mod-pow-add}
use Rattle.std.proofs.lemmas.List.{get_or_append_left, get_or-append_right, take_more, at_drop_more, drop-drop}
use Rattle.std.proofs.str.Laws.{order}
use Rattle.bits.specs.Bits.{spell, number, bits, value}

pub length_spell : (w v : ℕ) → length (spell w v) ≡ w
length_spell zero v = refl
length_spell (suc w) v = ap suc (length_spell w v)

pub length_bits : (file : List ℕ) → length (bits file) ≡ 8 * length file
unfolding bits
length_bits [] = refl
length_bits (b ∷ bs) = omega (arith, length_bits bs)

pub get_d_spell : (w v j : ℕ) → j < w → get_or (spell w v) j 0 ≡ v / 2 ^ (w - 1 - j) % 2
get_d_spell zero v j h = absurd (omega arith)
get_d_spell (suc w) v zero h = let e : w ≡ suc w - 1 - 0 = omega arith in ap (λ k. v / 2 ^ k % 2) e
get_d_spell (suc w) v (suc j) h = let e : w - 1 - j ≡ suc w - 1 - suc j = omega arith in get_d_spell w v j (omega arith) ∙ ap (λ k. v / 2 ^ k % 2) e

pub get_d_bits : (file : List ℕ) (i : ℕ) → i < 8 * length file → get_or (bits file) i 0 ≡ get_or file (i / 8) 0 / 2 ^ (7 - i % 8) % 2
unfolding bits
get_d_bits [] i h = absurd (omega arith)
get_d_bits (b ∷ bs) i h =
    ⊎_elim
    (λ low.
    let q : i / 8 ≡ 0 = omega arith in
    let r : i % 8 ≡ i = omega arith in
    get_or_append_left (spell 8 b) (bits bs) 0 i low ∙ get_d_spell 8 b i low ∙ rw (q, r))
    (λ high.
    let q : i / 8 ≡ suc ((i - 8) / 8) = omega arith in
    let r : i % 8 ≡ (i - 8) % 8 = omega arith in
    get_or-append_right (spell 8 b) (bits bs) 8 i 0 refl high ∙ get_d_bits bs (i - 8) (omega arith) ∙ rw (q, r))
    (order i 8)

pub number_push : (bs : List ℕ) (b : ℕ) → number (bs ++ b ∷ []) ≡ number bs * 2 + b
number_push [] b = omega arith
number_push (x ∷ bs) b =
    let p : x * 2 ^ length (bs ++ b ∷ []) ≡ x * (2 ^ length bs * 2) = ap (λ n. x * 2 ^ n) (length-append bs (b ∷ [])) ∙ ap (λ n. x * n) (pow-add 2 (length bs) 1) in
    omega (arith, number_push bs b, mul_assoc x (2 ^ length bs) 2)

pub number_spell : (w v : ℕ) → number (spell w v) ≡ v % 2 ^ w
number_spell zero v = omega arith
number_spell (suc w) v =
    ap (λ n. v / 2 ^ w % 2 * 2 ^ n + number (spell w v)) (length_spell w v) ∙ ap (λ m. v / 2 ^ w % 2 * 2 ^ w + m) (number_spell w v)
    ∙ sym (mod-pow-add v 1 w) ∙ ap (λ n. v % 2 ^ n) (one-add w)

pub number_more : (bs : List ℕ) (i : ℕ) → i < length bs → number (take (i + 1) bs) ≡ number (take i bs) * 2 + get_or bs i 0
number_more bs i h = ap number (take_more bs i 0 h) ∙ number_push (take i bs) (get_or bs i 0)

-- one more bit of a field that begins at `at`, as the reader has it
abbrev pub Sofar : List ℕ → ℕ → ℕ → ℕ → Type 0
Sofar file at i v = (v ≡ number (take (i - at) (drop at (bits file)))) × (v < 2 ^ (i - at))

pub read_more : (file : List ℕ) (at i v : ℕ) → Sofar file at i v → at ≤ i → i < 8 * length file → Sofar file at (i + 1) (v * 2 + bit_and (get_or file (i / 8) 0 / 2 ^ (7 - i % 8)) 1)
read_more file at i v so le lt =
    let k : i + 1 - at ≡ i - at + 1 = omega arith in
    let l : at + (i - at) ≡ i = omega arith in
    let there = get_or-drop at (bits file) (i - at) 0 ∙ ap (λ n. get_or (bits file) n 0) l ∙ get_d_bits file i lt in
    let more = number_more (drop at (bits file)) (i - at) (simp (length-drop, length_bits) (omega arith)) in
    let mask = and_mask (get_or file (i / 8) 0 / 2 ^ (7 - i % 8)) 1 in
    rw k (omega (arith, more, there, mask, so.0), omega (arith, pow-add 2 (i - at) 1, mask, so.1))

pub drop_bits : (file : List ℕ) (b : ℕ) → drop (8 * b) (bits file) ≡ bits (drop b file)
unfolding bits
drop_bits file zero = refl
drop_bits [] (suc b) = drop-nil (8 * suc b)
drop_bits (x ∷ file) (suc b) =
    let e : 8 * suc b ≡ 8 + 8 * b = omega arith in
    ap (λ k. drop k (bits (x ∷ file))) e ∙ sym (drop-drop (8 * b) 8 (bits (x ∷ file))) ∙ drop_bits file b

-- the eight bits from a whole byte on are that byte
pub value_byte : (file : List ℕ) (b : ℕ) → b < length file → get_or file b 0 < 256 → value file (8 * b) 8 ≡ get_or file b 0
unfolding bits
value_byte file b lt small =
    ap (λ l. number (take 8 l)) (drop_bits file b ∙ ap bits (at_drop_more (λ l. l) file b 0 lt))
    ∙ number_spell 8 (get_or file b 0) ∙ mod-eq_of_lt small
