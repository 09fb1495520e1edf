-- The fields that a file answers are those whose bits it has.
use Rattle.std.proofs.Common.{◌≡◌, ℕ, ◌+◌, ◌-◌, ◌*◌, ◌≤◌, cond, List, [], ◌∷◌, ◌++◌, length, take, drop, Some, None, Ok, Option, sym, refl, ap, ◌∙◌, subst, append_assoc, add-zero, mod-eq_of_lt, arith, length-append, length-drop, length-take-le, take-add, le-leb}
use Rattle.std.specs.List.{AllByRecursion}
use Rattle.std.proofs.lemmas.List.{take_at, drop_at, drop-drop}
use Rattle.std.proofs.ByRecursion.{All-take, All-drop}
use Rattle.bits.specs.Bits.{spell, number, bits, value}
use Rattle.bits.proofs.Laws.{length_spell, length_bits, number_spell}
use Rattle.bits.proofs.Packs.{Bit, all_bits, spell_number}
use Rattle.book_fields.specs.declared.field.Field.{Field}
use Rattle.book_fields.specs.Fields.{layout}
use Rattle.book_source.specs.Files.{spelled, says, in_file}
use Rattle.book.proofs.FileNames.{spelled_so}
use Rattle.draft.specs.Entries.{Entry}
use Rattle.draft.specs.Encoding.{in_bits, code, spelt, FitsIn, Fit}
use Rattle.draft.proofs.Said.{Answered}

module _ (file : List ℕ) where
  -- a field whose bits the file has
  says_is : (pre post : List ℕ) (f : Field) (v : ℕ) (l : Option (ℕ × ℕ)) → FitsIn v l → bits file ≡ pre ++ (in_bits v l ++ post) → says file f (length pre) l ≡ Ok (v, length pre + length (in_bits v l))
  says_is pre post f v None h e = absurd h
  says_is pre post f v (Some l) h e =
      let w = l.0 in
      let at = length pre in
      let x = v - l.1 in
      let fits : at + w ≤ 8 * length file = omega (arith, length_bits file, ap length e, length-append pre (spell w x ++ post), length-append (spell w x) post, length_spell w x) in
      let part : take w (drop at (bits file)) ≡ spell w x = ap (λ b. take w (drop at b)) e ∙ ap (take w) (drop_at pre (spell w x ++ post) _ refl) ∙ take_at (spell w x) post w (length_spell w x) in
      let is : value file at w ≡ x = ap number part ∙ number_spell w x ∙ mod-eq_of_lt h.1 in
      let back : value file at w + l.1 ≡ v = omega (arith, h.0) in
      ap (λ b. spelled (cond b (Some (value file at w)) None) f at l) (le-leb _ _ fits)
      ∙ (λ t. Ok (back t, at + sym (length_spell w x) t))

  pub file_answers : (es : List Entry) (pre : List ℕ) → AllByRecursion Fit es → bits file ≡ pre ++ spelt (length pre) es → Answered (in_file file) es (length pre) (length pre + length (spelt (length pre) es))
  unfolding spelt
  file_answers [] pre a e = sym (add-zero (length pre))
  file_answers (x ∷ es) pre a e =
      let one = code x (length pre) in
      let rest = spelt (length pre + length one) es in
      let long : length (pre ++ one) ≡ length pre + length one = length-append pre one in
      let e' : bits file ≡ (pre ++ one) ++ spelt (length (pre ++ one)) es = e ∙ sym (append_assoc pre one rest) ∙ ap (λ k. (pre ++ one) ++ spelt k es) (sym long) in
      let end : length (pre ++ one) + length (spelt (length (pre ++ one)) es) ≡ length pre + length (one ++ rest) =
      (λ t. long t + length (spelt (long t) es)) ∙ omega (arith, length-append one rest) in (
        length pre + length one,
        says_is pre rest x.0 x.1 (layout x.0 (length pre)) (a.0 (length pre)) e,
        subst (λ (p : ℕ × ℕ). Answered (in_file file) es p.0 p.1) (λ t. (long t, end t)) (file_answers es (pre ++ one) a.1 e'),
      )

  -- the bits of a field that the file has answered
  says_so : (f : Field) (at v end : ℕ) (l : Option (ℕ × ℕ)) → FitsIn v l → says file f at l ≡ Ok (v, end)
      → (in_bits v l ≡ take (length (in_bits v l)) (drop at (bits file))) × (end ≡ at + length (in_bits v l)) × (end ≤ 8 * length file)
  says_so f at v end None h e = absurd h
  says_so f at v end (Some l) h e =
      let w = l.0 in
      let s = spelled_so file f at w l.1 v end e in
      let part = take w (drop at (bits file)) in
      let x = v - l.1 in
      let is : x ≡ number part = omega (arith, s.1) in
      let long : length part ≡ w = length-take-le w (drop at (bits file)) (simp (length-drop, length_bits) (omega (arith, s.0))) in
      let all = All-take Bit w (drop at (bits file)) (All-drop Bit at (bits file) (all_bits file)) in (
        (λ t. spell (sym long t) (is t)) ∙ spell_number part all ∙ ap (λ k. take k (drop at (bits file))) (sym (length_spell w x)),
        s.2 ∙ ap (λ k. at + k) (sym (length_spell w x)),
        omega (arith, s.0, s.2),
      )

  pub file_spells : (es : List Entry) (at end : ℕ) → AllByRecursion Fit es → at ≤ 8 * length file → Answered (in_file file) es at end
      → (spelt at es ≡ take (length (spelt at es)) (drop at (bits file))) × (end ≡ at + length (spelt at es)) × (end ≤ 8 * length file)
  unfolding spelt
  file_spells [] at end a h x = (refl, sym x ∙ sym (add-zero at), omega arith)
  file_spells (e ∷ es) at end a h x =
      let one = says_so e.0 at e.1 x.0 (layout e.0 at) (a.0 at) x.1 in
      let b = code e at in
      let mid = at + length b in
      let more = file_spells es mid end a.1 (omega (arith, one.1, one.2)) (subst (λ k. Answered (in_file file) es k end) one.1 x.2) in
      let rest = spelt mid es in (
        (λ t. one.0 t ++ (more.0 ∙ ap (take (length rest)) (sym (drop-drop (length b) at (bits file)))) t)
            ∙ sym (take-add (length b) (length rest) (drop at (bits file)))
            ∙ ap (λ k. take k (drop at (bits file))) (sym (length-append b rest)),
        omega (arith, more.1, length-append b rest),
        more.2,
      )
