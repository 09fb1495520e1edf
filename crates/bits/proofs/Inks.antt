-- What one more field, and one more byte, add to what a pen has written.
use Rattle.std.proofs.Common.{◌≡◌, ℕ, zero, suc, ◌+◌, ◌-◌, ◌*◌, ◌/◌, ◌%◌, ◌^◌, ◌<◌, ◌≤◌, List, [], ◌∷◌, ◌++◌, length, take, drop, set, sym, refl, ap, ◌∙◌, subst, append_assoc, append-nil, add_comm, zero-add, arith, pow_pos}
use lib.Arith.{digits_lt}
use Rattle.std.specs.List.{AllByRecursion}
use Rattle.std.proofs.lemmas.Nat.{shr-shr, shr_high, shr_split, mod_below, pow-add}
use Rattle.std.proofs.ByRecursion.{All-take}
use Rattle.std.proofs.lemmas.List.{take_more_set, drop-set-lt, drop-drop}
use Rattle.bits.specs.Bits.{spell, bits}
use Rattle.bits.specs.Bytes.{packed}
use Rattle.bits.specs.Ink.{ink}
use Rattle.bits.proofs.Packs.{spell_high, packed_bits}

spell_append : (a w x y : ℕ) → y < 2 ^ w → spell (a + w) (x * 2 ^ w + y) ≡ spell a x ++ spell w y
spell_append zero w x y h = ap (λ k. spell k (x * 2 ^ w + y)) (zero-add w) ∙ spell_high w x y
spell_append (suc a) w x y h =
    let e : suc a + w ≡ suc (a + w) = omega arith in
    let n = x * 2 ^ w + y in
    let top : n / 2 ^ (a + w) ≡ x / 2 ^ a = ap (λ k. n / 2 ^ k) (add_comm a w) ∙ sym (shr-shr n w a) ∙ ap (λ k. k / 2 ^ a) (shr_high x w y h) in
    ap (λ k. spell k n) e ∙ (λ t. top t % 2 ∷ spell_append a w x y h t)

bits_push : (xs : List ℕ) (b : ℕ) → bits (xs ++ b ∷ []) ≡ bits xs ++ spell 8 b
unfolding bits
bits_push [] b = append-nil (spell 8 b)
bits_push (x ∷ xs) b = ap (λ l. spell 8 x ++ l) (bits_push xs b)

-- what was written before, `all`, with the bits that wait; behind them the slice is as it was
pub record Inked (all : List ℕ) (bound : ℕ) (old : List ℕ) (out : List ℕ) (at count held : ℕ) : Type 0 where
  pub is : ink out at count held ≡ all
  pub small : held < 2 ^ count
  pub on : 8 * at + count ≡ bound
  pub same : drop at out ≡ drop at old
  pub few : count ≤ 39

pub field_more : (out : List ℕ) (at c held w v : ℕ) → c < 8 → held < 2 ^ c → w ≤ 32 → v < 2 ^ w
    → Inked (ink out at c held ++ spell w v) (8 * at + c + w) out out at (c + w) (held * 2 ^ w + v)
field_more out at c held w v c8 small w32 vs = record {
  is = ap (λ l. bits (take at out) ++ l) (spell_append c w held v vs) ∙ sym (append_assoc (bits (take at out)) (spell c held) (spell w v));
  small = subst (λ n. held * 2 ^ w + v < n) (sym (pow-add 2 c w)) (digits_lt small vs);
  on = omega arith;
  same = refl;
  few = omega arith;
}

pub byte_more : (all : List ℕ) (bound : ℕ) (old out : List ℕ) (at count held : ℕ) → Inked all bound old out at count held → at < length out → 8 ≤ count
    → Inked all bound old (set out at (held / 2 ^ (count - 8))) (at + 1) (count - 8) (held % 2 ^ (count - 8))
byte_more all bound old out at count held so lt big =
    let c = count - 8 in
    let b = held / 2 ^ c in
    let low : held % 2 ^ c < 2 ^ c = mod_below held (2 ^ c) (pow_pos c) in
    let eight : 8 + c ≡ count = omega arith in
    record {
      is = ap (λ l. bits l ++ spell c (held % 2 ^ c)) (take_more_set out at b lt) ∙ ap (λ l. l ++ spell c (held % 2 ^ c)) (bits_push (take at out) b)
          ∙ append_assoc (bits (take at out)) (spell 8 b) (spell c (held % 2 ^ c))
          ∙ ap (λ l. bits (take at out) ++ l) (sym (spell_append 8 c b (held % 2 ^ c) low) ∙ (λ t. spell (eight t) (shr_split held c t)))
          ∙ so.is;
      small = low;
      on = omega (arith, so.on);
      same = drop-set-lt (at + 1) out at b (omega arith) ∙ sym (drop-drop 1 at out) ∙ ap (drop 1) so.same ∙ drop-drop 1 at old;
      few = omega (arith, so.few);
    }

pub later : (xs ys : List ℕ) (i k : ℕ) → i ≤ k → drop i xs ≡ drop i ys → drop k xs ≡ drop k ys
later xs ys i k h e =
    let s : i + (k - i) ≡ k = omega arith in
    ap (λ n. drop n xs) (sym s) ∙ sym (drop-drop (k - i) i xs) ∙ ap (drop (k - i)) e ∙ drop-drop (k - i) i ys ∙ ap (λ n. drop n ys) s

pub ink_none : (out : List ℕ) → ink out 0 0 0 ≡ []
unfolding bits
ink_none out = refl

-- a pen with no bit that waits has written whole bytes
pub ink_whole : (out : List ℕ) (at count held : ℕ) (bs : List ℕ) → ink out at count held ≡ bs → count ≡ 0 → AllByRecursion (λ b. b < 256) out → take at out ≡ packed bs
ink_whole out at count held bs e none all =
    sym (packed_bits (take at out) (All-take (λ b. b < 256) at out all))
    ∙ ap packed (sym (append-nil (bits (take at out))) ∙ ap (λ k. bits (take at out) ++ spell k held) (sym none) ∙ e)
