-- Bits and bytes: each way round.
use Rattle.std.proofs.Common.{◌≡◌, ℕ, zero, suc, ◌+◌, ◌*◌, ◌/◌, ◌%◌, ◌^◌, ◌<◌, ◌≤◌, List, [], ◌∷◌, ◌++◌, length, take, drop, sym, refl, ap, ◌∙◌, mul_assoc, add_comm, arith, length-drop, length-take-le, take-add, pow_pos}
use native.Mathlib.Nat.{add-mul-div_right, pow-succ'}
use Rattle.std.specs.List.{AllByRecursion}
use Rattle.std.proofs.lemmas.Nat.{div-mul-add, mul-le}
use Rattle.std.proofs.ByRecursion.{All-append, All-take, All-drop}
use Rattle.std.proofs.lemmas.List.{take_all}
use Rattle.bits.specs.Bits.{spell, number, bits}
use Rattle.bits.specs.Bytes.{bytes, packed}
use Rattle.bits.proofs.Laws.{length_bits, number_spell}

abbrev pub Bit : ℕ → Type 0
Bit b = b < 2

pub all_spell : (w v : ℕ) → AllByRecursion Bit (spell w v)
all_spell zero v = tt
all_spell (suc w) v = (omega arith, all_spell w v)

pub all_bits : (file : List ℕ) → AllByRecursion Bit (bits file)
unfolding bits
all_bits [] = tt
all_bits (b ∷ bs) = All-append Bit (spell 8 b) (bits bs) (all_spell 8 b) (all_bits bs)

number_lt : (bs : List ℕ) → AllByRecursion Bit bs → number bs < 2 ^ length bs
number_lt [] a = omega arith
number_lt (b ∷ bs) a = let p = 2 ^ length bs in omega (arith, pow-succ' 2 (length bs), mul-le b p 1 p (omega arith) (omega arith), number_lt bs a.1)

-- what stands above the w low bits does not show
pub spell_high : (w a v : ℕ) → spell w (a * 2 ^ w + v) ≡ spell w v
spell_high zero a v = refl
spell_high (suc w) a v =
    let p = 2 ^ w in
    let e : a * 2 ^ suc w + v ≡ a * 2 * p + v = ap (λ k. a * k + v) (pow-succ' 2 w) ∙ omega (arith, mul_assoc a 2 p) in
    let d : (a * 2 * p + v) / p ≡ a * 2 + v / p = ap (λ n. n / p) (add_comm (a * 2 * p) v) ∙ add-mul-div_right v (a * 2) (pow_pos w) ∙ add_comm (v / p) (a * 2) in
    let h : (a * 2 * p + v) / p % 2 ≡ v / p % 2 = omega arith in
    ap (λ n. spell (suc w) n) e ∙ (λ t. h t ∷ spell_high w (a * 2) v t)

pub spell_number : (bs : List ℕ) → AllByRecursion Bit bs → spell (length bs) (number bs) ≡ bs
spell_number [] a = refl
spell_number (b ∷ bs) a =
    let p = 2 ^ length bs in
    let d = div-mul-add b p (number bs) (number_lt bs a.1) in
    let h : (b * p + number bs) / p % 2 ≡ b = omega arith in
    (λ t. h t ∷ (spell_high (length bs) b (number bs) ∙ spell_number bs a.1) t)

pub length_bytes : (k : ℕ) (bs : List ℕ) → length (bytes k bs) ≡ k
length_bytes zero bs = refl
length_bytes (suc k) bs = ap suc (length_bytes k (drop 8 bs))

bits_bytes : (k : ℕ) (bs : List ℕ) → AllByRecursion Bit bs → 8 * k ≤ length bs → bits (bytes k bs) ≡ take (8 * k) bs
unfolding bits
bits_bytes zero bs a h = refl
bits_bytes (suc k) bs a h =
    let e : 8 * suc k ≡ 8 + 8 * k = omega arith in
    let l : length (take 8 bs) ≡ 8 = length-take-le 8 bs (omega arith) in
    let one : spell 8 (number (take 8 bs)) ≡ take 8 bs = ap (λ n. spell n (number (take 8 bs))) (sym l) ∙ spell_number (take 8 bs) (All-take Bit 8 bs a) in
    let rest = bits_bytes k (drop 8 bs) (All-drop Bit 8 bs a) (simp length-drop (omega arith)) in
    (λ t. one t ++ rest t) ∙ sym (take-add 8 (8 * k) bs) ∙ ap (λ n. take n bs) (sym e)

bytes_bits : (file : List ℕ) → AllByRecursion (λ b. b < 256) file → bytes (length file) (bits file) ≡ file
unfolding bits
bytes_bits [] a = refl
bytes_bits (b ∷ bs) a =
    let byte : number (spell 8 b) ≡ b = number_spell 8 b ∙ (omega (arith, a.0)) in
    (λ t. byte t ∷ bytes_bits bs a.1 t)

-- whole bytes have the bits that they were made of
pub bits_packed : (bs : List ℕ) → AllByRecursion Bit bs → length bs % 8 ≡ 0 → bits (packed bs) ≡ bs
bits_packed bs a whole = bits_bytes (length bs / 8) bs a (omega arith) ∙ take_all (8 * (length bs / 8)) bs (omega arith)

pub packed_bits : (file : List ℕ) → AllByRecursion (λ b. b < 256) file → packed (bits file) ≡ file
packed_bits file a =
    let e : length (bits file) / 8 ≡ length file = omega (arith, length_bits file) in
    ap (λ k. bytes k (bits file)) e ∙ bytes_bits file a
