-- A book is its counts, its options, its tables and its names.
use Rattle.std.proofs.Common.{◌≡◌, ℕ, List, ◌++◌, length, Ok, Err, sum, Result, sym, refl, ap, ◌∙◌, arith}
use Rattle.book_fields.specs.declared.field.Fault.{Fault}
use Rattle.grammar.specs.Contents.{Table}
use Rattle.grammar.specs.Layout.{cut}
use Rattle.book_source.specs.Readings.{Source, and_then, next, give, told}
use Rattle.grammar.specs.Grammar.{counts, shapes, tables, tail, book}
use Rattle.book_source.proofs.Steps.{read_ok, next_ok}
use Rattle.grammar.proofs.Cuts.{cut_front}

module _ (s₀ s₁ s₂ s₃ : Source) (a b d e n m x y : ℕ) (sizes lengths sizes' : List ℕ) (ts : List Table) (one : Result (ℕ × ℕ) Fault) (two three : Result ℕ Fault)
    (same₁ : s₁ ≡ s₀) (same₂ : s₂ ≡ s₁) (same₃ : s₃ ≡ s₂) (again : sizes' ≡ sizes)
    (was₁ : one ≡ Ok (n, m)) (is₁ : told (λ v. v) one b ≡ counts s₀ a)
    (was₂ : two ≡ Ok x) (is₂ : told (λ _. (sizes, lengths)) two d ≡ shapes s₁ n b)
    (was₃ : three ≡ Ok y) (is₃ : told (λ _. ts) three e ≡ tables s₂ sizes' m d) where
  front : book s₀ a ≡ next (tail s₀ (sum lengths)) (λ ls. give (record { sizes = sizes; names = cut ls lengths; tables = ts })) e
  front =
      let third : tables s₀ sizes m d ≡ Ok (ts, e) = ap (λ l. tables s₀ l m d) (sym again) ∙ read_ok (λ s. tables s sizes' m) s₂ s₀ d (λ _. ts) (same₂ ∙ same₁) was₃ is₃ in
      next_ok (counts s₀) _ a (n, m) b (read_ok counts s₀ s₀ a (λ v. v) refl was₁ is₁)
      ∙ next_ok (shapes s₀ n) _ b (sizes, lengths) d (read_ok (λ s. shapes s n) s₁ s₀ b (λ _. (sizes, lengths)) same₁ was₂ is₂)
      ∙ next_ok (tables s₀ sizes m) _ d ts e third

  module _ (f k : ℕ) (out : List ℕ) (four : Result ℕ Fault) (count : k ≡ sum lengths) (is₄ : told (λ _. out) four f ≡ tail s₃ k e) where
    last : told (λ _. out) four f ≡ tail s₀ (sum lengths) e
    last = is₄ ∙ (λ t. tail ((same₃ ∙ same₂ ∙ same₁) t) (count t) e)

    pub book_stop : (z : Fault) → four ≡ Err z → Err z ≡ book s₀ a
    book_stop z was =
        sym (front ∙ ap (λ r. and_then r (λ p. give (record { sizes = sizes; names = cut p.0 lengths; tables = ts }) p.1)) (sym last ∙ ap (λ r. told (λ _. out) r f) was))

    pub book_read : (z : ℕ) (more : List ℕ) → four ≡ Ok z → length out ≡ k → Ok (record { sizes = sizes; names = cut (out ++ more) lengths; tables = ts }, f) ≡ book s₀ a
    book_read z more was long =
        (λ t. Ok (record { sizes = sizes; names = cut_front out more lengths (omega arith) t; tables = ts }, f))
        ∙ sym (front ∙ next_ok (tail s₀ (sum lengths)) _ e out f (sym last ∙ ap (λ r. told (λ _. out) r f) was))
