-- A table is written heading first, then its rows.
use Rattle.std.proofs.Common.{◌≡◌, ℕ, ◌+◌, ◌<◌, List, [], ◌∷◌, ◌++◌, map, length, get_or, take, drop, sum_by, sum, refl, ap, ◌∙◌, subst}
use Rattle.std.specs.List.{AllByRecursion}
use Rattle.std.proofs.ByRecursion.{All-get_or}
use Rattle.std.proofs.lemmas.List.{at_drop_more, get_or-map, length-map}
use Rattle.std.proofs.lemmas.List.Sums.{sum_by-cons, sum_by_more}
use Rattle.bits.specs.declared.pen.Pen.{Pen}
use Rattle.book_fields.specs.declared.field.Field.{Field}
use Rattle.grammar.specs.declared.index.TableIndex.{TableIndex}
use Rattle.grammar.specs.Contents.{Table, ValidTable}
use Rattle.grammar.specs.Layout.{table_of}
use Rattle.draft.specs.Entries.{numbered, row_fields, table_fields, tables_fields}
use Rattle.draft.specs.Lengths.{table_bits_of}
use Rattle.draft.specs.Writing.{Ready, Wrote}
use Rattle.draft.proofs.Dues.{Due, due_none, due_ready, due_more, due_last}

module _ (out₀ : List ℕ) (pen₀ : Pen) (t first : ℕ) (x : Table) (ready : Ready pen₀ out₀ (table_fields t first x)) where
  pub kind_ready : Ready pen₀ out₀ ((Field.Kind t, 0) ∷ [])
  kind_ready = due_ready _ _ _ _ _ _ ((Field.Kind t, 0) ∷ []) _ (due_none out₀ pen₀ (table_fields t first x) ready) refl

  module _ (out₁ : List ℕ) (pen₁ : Pen) (l₁ : length out₁ ≡ length out₀) (w₁ : Wrote out₀ pen₀ out₁ pen₁ ((Field.Kind t, 0) ∷ [])) where
    d₁ : Due out₀ pen₀ out₁ pen₁ (table_fields t first x) ((Field.ScopeLength t, length x.scope) ∷ (numbered (Field.ScopeOption t) 0 x.scope ++ (Field.RowCount t, length x.rows) ∷ row_fields t first x.rows))
    d₁ = due_more _ _ _ _ _ _ ((Field.Kind t, 0) ∷ []) _ (due_none out₀ pen₀ (table_fields t first x) ready) refl _ _ l₁ w₁

    pub arity_ready : Ready pen₁ out₁ ((Field.ScopeLength t, length x.scope) ∷ [])
    arity_ready = due_ready _ _ _ _ _ _ ((Field.ScopeLength t, length x.scope) ∷ []) _ d₁ refl

    module _ (out₂ : List ℕ) (pen₂ : Pen) (l₂ : length out₂ ≡ length out₁) (w₂ : Wrote out₁ pen₁ out₂ pen₂ ((Field.ScopeLength t, length x.scope) ∷ [])) where
      d₂ : Due out₀ pen₀ out₂ pen₂ (table_fields t first x) (numbered (Field.ScopeOption t) 0 x.scope ++ (Field.RowCount t, length x.rows) ∷ row_fields t first x.rows)
      d₂ = due_more _ _ _ _ _ _ ((Field.ScopeLength t, length x.scope) ∷ []) _ d₁ refl _ _ l₂ w₂

      pub scope_ready : Ready pen₂ out₂ (numbered (Field.ScopeOption t) 0 x.scope)
      scope_ready = due_ready _ _ _ _ _ _ (numbered (Field.ScopeOption t) 0 x.scope) _ d₂ refl

      module _ (out₃ : List ℕ) (pen₃ : Pen) (l₃ : length out₃ ≡ length out₂) (w₃ : Wrote out₂ pen₂ out₃ pen₃ (numbered (Field.ScopeOption t) 0 x.scope)) where
        d₃ : Due out₀ pen₀ out₃ pen₃ (table_fields t first x) ((Field.RowCount t, length x.rows) ∷ row_fields t first x.rows)
        d₃ = due_more _ _ _ _ _ _ (numbered (Field.ScopeOption t) 0 x.scope) _ d₂ refl _ _ l₃ w₃

        pub count_ready : Ready pen₃ out₃ ((Field.RowCount t, length x.rows) ∷ [])
        count_ready = due_ready _ _ _ _ _ _ ((Field.RowCount t, length x.rows) ∷ []) _ d₃ refl

        module _ (out₄ : List ℕ) (pen₄ : Pen) (l₄ : length out₄ ≡ length out₃) (w₄ : Wrote out₃ pen₃ out₄ pen₄ ((Field.RowCount t, length x.rows) ∷ [])) where
          d₄ : Due out₀ pen₀ out₄ pen₄ (table_fields t first x) (row_fields t first x.rows)
          d₄ = due_more _ _ _ _ _ _ ((Field.RowCount t, length x.rows) ∷ []) _ d₃ refl _ _ l₄ w₄

          pub rows_ready : Ready pen₄ out₄ (row_fields t first x.rows)
          rows_ready = d₄.ready

          pub table_wrote : (out₅ : List ℕ) (pen₅ : Pen) → length out₅ ≡ length out₄ → Wrote out₄ pen₄ out₅ pen₅ (row_fields t first x.rows) → Wrote out₀ pen₀ out₅ pen₅ (table_fields t first x)
          table_wrote out₅ pen₅ l₅ w₅ = due_last _ _ _ _ _ _ d₄ out₅ pen₅ l₅ w₅

-- what stands beyond a list of tables
abbrev pub blank : TableIndex
blank = record { scope = []; arity = 0; start = 0; count = 0 }

module _ (rows : List (List ℕ)) (ts : List TableIndex) (i : ℕ) where
  pub tables_split : (first : ℕ) → i < length ts
      → tables_fields i first (map (table_of rows) (drop i ts)) ≡ table_fields i first (table_of rows (get_or ts i blank)) ++ tables_fields (i + 1) (first + length (table_of rows (get_or ts i blank)).rows) (map (table_of rows) (drop (i + 1) ts))
  tables_split first h = at_drop_more (λ l. tables_fields i first (map (table_of rows) l)) ts i blank h

  pub counts_split : i < length ts
      → sum (map (λ t. length t.rows) (map (table_of rows) (drop i ts))) ≡ length (table_of rows (get_or ts i blank)).rows + sum (map (λ t. length t.rows) (map (table_of rows) (drop (i + 1) ts)))
  counts_split h = at_drop_more (λ l. sum (map (λ t. length t.rows) (map (table_of rows) l))) ts i blank h ∙ sum_by-cons (λ x. x) (length (table_of rows (get_or ts i blank)).rows) (map (λ t. length t.rows) (map (table_of rows) (drop (i + 1) ts)))

-- the table at a place, and the bits of one table more
module _ (rows : List (List ℕ)) (ts : List TableIndex) (i : ℕ) (h : i < length ts) where
  at_place : get_or (map (table_of rows) ts) i (table_of rows blank) ≡ table_of rows (get_or ts i blank)
  at_place = get_or-map (table_of rows) ts i blank (table_of rows blank) h

  inside : i < length (map (table_of rows) ts)
  inside = simp length-map h

  pub valid_at : (sizes : List ℕ) → AllByRecursion (ValidTable sizes) (map (table_of rows) ts) → ValidTable sizes (table_of rows (get_or ts i blank))
  valid_at sizes a = subst (ValidTable sizes) at_place (All-get_or (ValidTable sizes) (map (table_of rows) ts) i (table_of rows blank) inside a)

  pub bits_more : sum_by table_bits_of (take (i + 1) (map (table_of rows) ts)) ≡ sum_by table_bits_of (take i (map (table_of rows) ts)) + table_bits_of (table_of rows (get_or ts i blank))
  bits_more = sum_by_more table_bits_of (map (table_of rows) ts) i (table_of rows blank) inside ∙ ap (λ t. sum_by table_bits_of (take i (map (table_of rows) ts)) + table_bits_of t) at_place
