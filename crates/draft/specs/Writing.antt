-- What writing a list of fields asks, and what it leaves.
use Rattle.std.specs.Prelude.{◌≡◌, ℕ, ◌+◌, ◌*◌, ◌≤◌, List, ◌++◌, length, drop}
use Rattle.std.specs.List.{AllByRecursion}
use Rattle.bits.specs.Ink.{inked, place}
use Rattle.bits.specs.declared.pen.Pen.{Pen}
use Rattle.book_fields.specs.declared.field.Field.{Field}
use Rattle.draft.specs.Entries.{Entry}
use Rattle.draft.specs.Encoding.{spelt, Fit}
use Rattle.draft.specs.declared.fields.FieldWriter.{FieldWriter}
use Rattle.draft.specs.declared.strokes.Run.{Run}

-- the slice has room for the fields behind what a pen has written, and each field has bits for its value
pub record Ready (pen : Pen) (out : List ℕ) (es : List Entry) : Type 0 where
  pub room : place pen + length (spelt (place pen) es) ≤ 8 * length out
  pub short : length out ≤ 32768
  pub fit : AllByRecursion Fit es

-- a pen has written the fields behind what it had written, and nothing further on has changed
pub record Wrote (out : List ℕ) (pen : Pen) (out' : List ℕ) (pen' : Pen) (es : List Entry) : Type 0 where
  pub ink : inked out' pen' ≡ inked out pen ++ spelt (place pen) es
  pub on : place pen' ≡ place pen + length (spelt (place pen) es)
  pub rest : (k : ℕ) → pen'.at ≤ k → drop k out' ≡ drop k out

-- a writer has the slice that it had, of the length that it had
pub record Kept (old new : FieldWriter) : Type 0 where
  pub slice : new.out.ghost_name ≡ old.out.ghost_name
  pub long : length new.out.now ≡ length old.out.now

-- the field at a place of a run
abbrev pub field_at : Run → ℕ → Field
field_at (Run.Scope t) j = Field.ScopeOption t j
field_at (Run.Row t r) j = Field.Value t r j
field_at Run.Names j = Field.NameByte j
