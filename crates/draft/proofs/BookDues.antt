-- A book is written field by field in the order of its parts.
use Rattle.std.proofs.Common.{◌≡◌, ℕ, ◌+◌, ◌<◌, List, [], ◌∷◌, ◌++◌, length, sum, sym, refl, ap, ◌∙◌, subst, arith}
use Rattle.std.specs.List.{AllByRecursion}
use Rattle.std.proofs.lemmas.List.{take_all, length-map}
use Rattle.bits.specs.Ink.{ink, inked, place}
use Rattle.bits.specs.declared.pen.Pen.{Pen}
use Rattle.bits.proofs.Inks.{ink_none, ink_whole}
use Rattle.book_fields.specs.declared.field.Field.{Field}
use Rattle.grammar.specs.Contents.{Table, Contents, Valid}
use Rattle.grammar.specs.Layout.{cut}
use Rattle.grammar.proofs.Cuts.{cut_lengths}
use Rattle.draft.specs.Entries.{Entry, numbered, option_fields, tables_fields, count_fields, tail_fields, fields}
use Rattle.draft.specs.Encoding.{spelt, encode, Fit}
use Rattle.draft.specs.Lengths.{file_length_of}
use Rattle.draft.specs.Writing.{Ready, Wrote}
use Rattle.draft.proofs.Dues.{Due, due_none, due_ready, due_more, due_last}
use Rattle.draft.proofs.Layers.{joined_cut}
use Rattle.draft.proofs.Long.{fields_long}
use Rattle.draft.proofs.Trips.{valid_short}

-- the fields of a book in parts: n options, m tables
abbrev pub part_fields : List ℕ → List ℕ → List Table → ℕ → List ℕ → List Entry
part_fields sizes lengths ts m letters = count_fields (length sizes) m ++ (option_fields 0 sizes lengths ++ (tables_fields 0 0 ts ++ tail_fields letters))

-- each option has a name
pub even_parts : (sizes lengths : List ℕ) (ts : List Table) (letters : List ℕ) → length letters ≡ sum lengths → Valid (record { sizes = sizes; names = cut letters lengths; tables = ts }) → length sizes ≡ length lengths
even_parts sizes lengths ts letters spelled v = sym v.named ∙ sym (length-map (cut letters lengths) length) ∙ ap length (cut_lengths letters lengths (omega arith))

module _ (sizes lengths : List ℕ) (ts : List Table) (m : ℕ) (letters : List ℕ) (spelled : length letters ≡ sum lengths) (counted : length ts ≡ m) where
  abbrev whole : Contents
  whole = record { sizes = sizes; names = cut letters lengths; tables = ts }

  parts_are : fields whole ≡ part_fields sizes lengths ts m letters
  parts_are = (λ i. count_fields (length sizes) (counted i) ++ (option_fields 0 sizes (cut_lengths letters lengths (omega arith) i) ++ (tables_fields 0 0 ts ++ tail_fields (joined_cut letters lengths spelled i))))

  module _ (out₀ : List ℕ) (pen₀ : Pen) (ready : Ready pen₀ out₀ (fields whole)) where
    start : Ready pen₀ out₀ (part_fields sizes lengths ts m letters)
    start = subst (Ready pen₀ out₀) parts_are ready

    d₀ : Due out₀ pen₀ out₀ pen₀ (part_fields sizes lengths ts m letters) (part_fields sizes lengths ts m letters)
    d₀ = due_none out₀ pen₀ (part_fields sizes lengths ts m letters) start

    pub edition_ready : Ready pen₀ out₀ ((Field.Edition, 1) ∷ [])
    edition_ready = due_ready _ _ _ _ _ _ ((Field.Edition, 1) ∷ []) _ d₀ refl

    module _ (out₁ : List ℕ) (pen₁ : Pen) (l₁ : length out₁ ≡ length out₀) (w₁ : Wrote out₀ pen₀ out₁ pen₁ ((Field.Edition, 1) ∷ [])) where
      d₁ : Due out₀ pen₀ out₁ pen₁ (part_fields sizes lengths ts m letters) ((Field.Options, length sizes) ∷ (Field.Tables, m) ∷ (option_fields 0 sizes lengths ++ (tables_fields 0 0 ts ++ tail_fields letters)))
      d₁ = due_more _ _ _ _ _ _ ((Field.Edition, 1) ∷ []) _ d₀ refl _ _ l₁ w₁

      pub options_ready : Ready pen₁ out₁ ((Field.Options, length sizes) ∷ [])
      options_ready = due_ready _ _ _ _ _ _ ((Field.Options, length sizes) ∷ []) _ d₁ refl

      module _ (out₂ : List ℕ) (pen₂ : Pen) (l₂ : length out₂ ≡ length out₁) (w₂ : Wrote out₁ pen₁ out₂ pen₂ ((Field.Options, length sizes) ∷ [])) where
        d₂ : Due out₀ pen₀ out₂ pen₂ (part_fields sizes lengths ts m letters) ((Field.Tables, m) ∷ (option_fields 0 sizes lengths ++ (tables_fields 0 0 ts ++ tail_fields letters)))
        d₂ = due_more _ _ _ _ _ _ ((Field.Options, length sizes) ∷ []) _ d₁ refl _ _ l₂ w₂

        pub number_ready : Ready pen₂ out₂ ((Field.Tables, m) ∷ [])
        number_ready = due_ready _ _ _ _ _ _ ((Field.Tables, m) ∷ []) _ d₂ refl

        module _ (out₃ : List ℕ) (pen₃ : Pen) (l₃ : length out₃ ≡ length out₂) (w₃ : Wrote out₂ pen₂ out₃ pen₃ ((Field.Tables, m) ∷ [])) where
          d₃ : Due out₀ pen₀ out₃ pen₃ (part_fields sizes lengths ts m letters) (option_fields 0 sizes lengths ++ (tables_fields 0 0 ts ++ tail_fields letters))
          d₃ = due_more _ _ _ _ _ _ ((Field.Tables, m) ∷ []) _ d₂ refl _ _ l₃ w₃

          pub shapes_ready : Ready pen₃ out₃ (option_fields 0 sizes lengths)
          shapes_ready = due_ready _ _ _ _ _ _ (option_fields 0 sizes lengths) _ d₃ refl

          module _ (out₄ : List ℕ) (pen₄ : Pen) (l₄ : length out₄ ≡ length out₃) (w₄ : Wrote out₃ pen₃ out₄ pen₄ (option_fields 0 sizes lengths)) where
            d₄ : Due out₀ pen₀ out₄ pen₄ (part_fields sizes lengths ts m letters) (tables_fields 0 0 ts ++ tail_fields letters)
            d₄ = due_more _ _ _ _ _ _ (option_fields 0 sizes lengths) _ d₃ refl _ _ l₄ w₄

            pub tables_ready : Ready pen₄ out₄ (tables_fields 0 0 ts)
            tables_ready = due_ready _ _ _ _ _ _ (tables_fields 0 0 ts) _ d₄ refl

            module _ (out₅ : List ℕ) (pen₅ : Pen) (l₅ : length out₅ ≡ length out₄) (w₅ : Wrote out₄ pen₄ out₅ pen₅ (tables_fields 0 0 ts)) where
              d₅ : Due out₀ pen₀ out₅ pen₅ (part_fields sizes lengths ts m letters) (tail_fields letters)
              d₅ = due_more _ _ _ _ _ _ (tables_fields 0 0 ts) _ d₄ refl _ _ l₅ w₅

              pub filling_ready : Ready pen₅ out₅ ((Field.Filling, 0) ∷ [])
              filling_ready = due_ready _ _ _ _ _ _ ((Field.Filling, 0) ∷ []) _ d₅ refl

              module _ (out₆ : List ℕ) (pen₆ : Pen) (l₆ : length out₆ ≡ length out₅) (w₆ : Wrote out₅ pen₅ out₆ pen₆ ((Field.Filling, 0) ∷ [])) where
                d₆ : Due out₀ pen₀ out₆ pen₆ (part_fields sizes lengths ts m letters) (numbered Field.NameByte 0 letters)
                d₆ = due_more _ _ _ _ _ _ ((Field.Filling, 0) ∷ []) _ d₅ refl _ _ l₆ w₆

                pub names_ready : Ready pen₆ out₆ (numbered Field.NameByte 0 letters)
                names_ready = d₆.ready

                pub fields_wrote : (out₇ : List ℕ) (pen₇ : Pen) → length out₇ ≡ length out₆ → Wrote out₆ pen₆ out₇ pen₇ (numbered Field.NameByte 0 letters) → Wrote out₀ pen₀ out₇ pen₇ (fields whole)
                fields_wrote out₇ pen₇ l₇ w₇ = subst (Wrote out₀ pen₀ out₇ pen₇) (sym parts_are) (due_last _ _ _ _ _ _ d₆ out₇ pen₇ l₇ w₇)

-- a pen at the first bit of a slice as long as the file of a book
module _ (c : Contents) (valid : Valid c) (fit : AllByRecursion Fit (fields c)) (out₀ : List ℕ) (pen₀ : Pen) (long : length out₀ ≡ file_length_of c) (at₀ : pen₀.at ≡ 0) (count₀ : pen₀.count ≡ 0) (held₀ : pen₀.held ≡ 0) where
  none : place pen₀ ≡ 0
  none = omega arith

  pub book_ready : Ready pen₀ out₀ (fields c)
  book_ready = record {
    room = (let e : place pen₀ + length (spelt (place pen₀) (fields c)) ≡ 0 + length (spelt 0 (fields c)) = ap (λ k. k + length (spelt k (fields c))) none in omega (arith, e, fields_long c valid));
    short = omega (arith, valid_short c valid fit);
    fit = fit;
  }

  pub book_wrote : (out : List ℕ) (pen : Pen) → length out ≡ length out₀ → Wrote out₀ pen₀ out pen (fields c) → (all : List ℕ) → all ≡ out → AllByRecursion (λ b. b < 256) all → all ≡ encode c
  book_wrote out pen same w all is bytes =
      let bs = spelt 0 (fields c) in
      let e : inked out pen ≡ bs =
      w.ink ∙ (λ i. ink out₀ (at₀ i) (count₀ i) (held₀ i) ++ spelt (none i) (fields c)) ∙ ap (λ l. l ++ bs) (ink_none out₀) in
      let p : place pen ≡ 0 + length bs = w.on ∙ ap (λ k. k + length (spelt k (fields c))) none in
      let size = fields_long c valid in
      is
      ∙ sym (take_all pen.at out (omega (arith, pen.few)))
      ∙ ink_whole out pen.at pen.count pen.held bs e (omega (arith, pen.few)) (subst (AllByRecursion (λ b. b < 256)) is bytes)
