-- What a call that reads has answered, as a step of what is read from the source with which the caller began.
use Rattle.std.proofs.Common.{◌≡◌, ℕ, Ok, Result, sym, ap, ◌∙◌}
use Rattle.book_fields.specs.declared.field.Fault.{Fault}
use Rattle.book_source.specs.Readings.{Reading, Source, and_then, next, told}

pub read_ok : {X Y : Type 0} (m : Source → Reading X) (s s₀ : Source) (at : ℕ) {end : ℕ} (f : Y → X) {r : Result Y Fault} {y : Y} → s ≡ s₀ → r ≡ Ok y → told f r end ≡ m s at → m s₀ at ≡ Ok (f y, end)
read_ok m s s₀ at {end} f same was is = ap (λ s. m s at) (sym same) ∙ sym is ∙ ap (λ r. told f r end) was

pub next_ok : {X Y : Type 0} (m : Reading X) (k : X → Reading Y) (at : ℕ) (x : X) (end : ℕ) → m at ≡ Ok (x, end) → next m k at ≡ k x end
next_ok m k at x end e = ap (λ r. and_then r (λ p. k p.0 p.1)) e
