-- The names at the end of a file.
use Rattle.std.proofs.Common.{◌≡◌, ℕ, zero, suc, ◌+◌, ◌-◌, ◌*◌, ◌/◌, ◌%◌, ◌<◌, ◌≤◌, Bool, true, false, cond, leb, List, ◌∷◌, length, get_or, take, drop, Some, None, Ok, sym, refl, ap, ◌∙◌, subst, arith, leb-true}
use Rattle.std.proofs.lemmas.List.{at_drop_more, take_all, length-drop}
use Rattle.bits.specs.Bits.{value, field}
use Rattle.bits.proofs.Laws.{value_byte}
use Rattle.book_fields.specs.declared.field.Field.{Field}
use Rattle.book_source.specs.Readings.{each, within}
use Rattle.grammar.specs.Grammar.{letter, letters, tail}
use Rattle.book_source.specs.Files.{spelled, in_file}
use Rattle.book_source.proofs.Inversion.{ok_so, next_so, within_so}

module _ (file : List ℕ) where
  -- a field that was there
  pub spelled_so : (f : Field) (at w added v end : ℕ) → spelled (field file at w) f at (w, added) ≡ Ok (v, end) → (at + w ≤ 8 * length file) × (v ≡ value file at w + added) × (end ≡ at + w)
  spelled_so f at w added v end e = go (leb (at + w) (8 * length file)) refl e
    where
      go : (b : Bool) → leb (at + w) (8 * length file) ≡ b → spelled (cond b (Some (value file at w)) None) f at (w, added) ≡ Ok (v, end) → (at + w ≤ 8 * length file) × (v ≡ value file at w + added) × (end ≡ at + w)
      go true is e = let p = ok_so e in (leb-true _ _ is, sym (ap (λ q. q.0) p), sym (ap (λ q. q.1) p))
      go false is e = let z : ◌≡◌ {A = ℕ} 0 1 = cc in absurd (omega arith)

  module _ (bytes : (i : ℕ) → get_or file i 0 < 256) where
    pub letters_are : (n k b : ℕ) (ls : List ℕ) (end : ℕ) → b ≤ length file → each (letter (in_file file)) (λ k _. k + 1) k n (8 * b) ≡ Ok (ls, end)
        → (ls ≡ take n (drop b file)) × (end ≡ 8 * (b + n)) × (b + n ≤ length file)
    letters_are zero k b ls end h e =
        let p = ok_so e in
        let at : 8 * b ≡ end = ap (λ q. q.1) p in
        (sym (ap (λ q. q.0) p), omega arith, omega arith)
    letters_are (suc n) k b ls end h e =
        next_so (letter (in_file file) k) _ (8 * b) e (λ x mid was rest.
        next_so (each (letter (in_file file)) (λ k _. k + 1) (k + 1) n) _ mid rest (λ ys fin was' rest'.
        within_so (in_file file) (Field.NameByte k) 0x21 0x7f (8 * b) x mid was (λ got low high.
        let s = spelled_so (Field.NameByte k) (8 * b) 8 0 x mid got in
        let lt : b < length file = omega (arith, s.0) in
        let on : mid ≡ 8 * (b + 1) = omega (arith, s.2) in
        let more = letters_are n (k + 1) (b + 1) ys fin (omega arith) (subst (λ m. each (letter (in_file file)) (λ k _. k + 1) (k + 1) n m ≡ Ok (ys, fin)) on was') in
        let x_is : x ≡ get_or file b 0 = omega (arith, s.1, value_byte file b lt (bytes b)) in
        let p = ok_so rest' in
        let fin-is : fin ≡ end = ap (λ q. q.1) p in
        (sym (ap (λ q. q.0) p) ∙ (λ t. x_is t ∷ more.0 t) ∙ sym (at_drop_more (take (suc n)) file b 0 lt), omega (arith, more.1), omega (arith, more.2)))))

    -- behind the names a file has nothing, so they are its last bytes
    pub tail_is : (n at : ℕ) (ls : List ℕ) (end : ℕ) → tail (in_file file) n at ≡ Ok (ls, end) → (ls ≡ drop (length file - n) file) × (n ≤ length file)
    tail_is n at ls end e =
        next_so (within (in_file file) Field.Filling 0 1) _ at e (λ z from was rest.
        next_so (letters (in_file file) n) _ from rest (λ ys fin was' rest'.
        next_so (within (in_file file) Field.End 0 1) _ fin rest' (λ left last was'' rest''.
        within_so (in_file file) Field.Filling 0 1 at z from was (λ got _ _.
        within_so (in_file file) Field.End 0 1 fin left last was'' (λ none _ zero_left.
        let s = spelled_so Field.Filling at ((8 - at % 8) % 8) 0 z from got in
        let b = from / 8 in
        let whole : from ≡ 8 * b = omega (arith, s.2) in
        let l = letters_are n 0 b ys fin (omega (arith, s.0, s.2)) (subst (λ m. letters (in_file file) n m ≡ Ok (ys, fin)) whole was') in
        let out : 8 * length file - fin ≡ left = ap (λ q. q.0) (ok_so none) in
        let place : b ≡ length file - n = omega (arith, l.1, l.2) in
        let p = ok_so rest'' in
        (sym (ap (λ q. q.0) p) ∙ l.0 ∙ ap (λ k. take n (drop k file)) place ∙ take_all n (drop (length file - n) file) (simp length-drop (omega (arith, l.2))), omega (arith, l.2)))))))
