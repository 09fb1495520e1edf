-- Reading in steps: what is read from a bit on, and the bit behind it, or a fault.
use Rattle.std.specs.Prelude.{ℕ, zero, suc, Bool, true, false, cond, List, [], ◌∷◌, Ok, Err, Result, nat_le, nat_lt}
use Rattle.questions.specs.declared.question.Question.{Question}
use Rattle.book_fields.specs.declared.field.Field.{Field}
use Rattle.book_fields.specs.declared.field.Fault.{Fault}
use Rattle.book_fields.specs.Fields.{asked}

abbrev pub Reading : Type 0 → Type 0
Reading X = ℕ → Result (X × ℕ) Fault

-- what fields are read from: it gives each field's value, or refuses it
abbrev pub Source : Type 0
Source = Field → Reading ℕ

abbrev pub refuse : {X : Type 0} → Question → ℕ → Field → Result X Fault
refuse q at f = Err (record { question = q; bit = at; field = f })

-- a question about a field that begins at a bit: no is a refusal
abbrev pub ask : {X : Type 0} → Bool → Question → ℕ → Field → Result X Fault → Result X Fault
ask true q at f r = r
ask false q at f r = refuse q at f

abbrev pub and_then : {X Y : Type 0} → Result X Fault → (X → Result Y Fault) → Result Y Fault
and_then (Ok x) k = k x
and_then (Err e) k = Err e

-- nothing more is read
abbrev pub give : {X : Type 0} → X → Reading X
give x at = Ok (x, at)

-- one reading, and then another that goes by what was read
abbrev pub next : {X Y : Type 0} → Reading X → (X → Reading Y) → Reading Y
next m k at = and_then (m at) (λ p. k p.0 p.1)

abbrev pub between : ℕ → ℕ → ℕ → Bool
between low high v = cond (nat_le low v) (nat_lt v high) false

-- a field whose value has to be at least low and below high
abbrev pub within : Source → Field → ℕ → ℕ → Reading ℕ
within s f low high at = and_then (s f at) (λ p. ask (between low high p.0) (asked f) at f (Ok p))

-- n things, one after another; c is carried on from those before
abbrev pub each : {C X : Type 0} → (C → Reading X) → (C → X → C) → C → ℕ → Reading (List X)
each one on c zero = give []
each one on c (suc n) = next (one c) (λ x. next (each one on (on c x) n) (λ xs. give (x ∷ xs)))

-- what a call that reads has answered, with the bit at which its source then stands
abbrev pub told : {X Y : Type 0} → (X → Y) → Result X Fault → ℕ → Result (Y × ℕ) Fault
told f (Ok x) at = Ok (f x, at)
told f (Err e) at = Err e
