-- A table is its heading and its rows.
use Rattle.std.proofs.Common.{◌≡◌, ℕ, ◌+◌, ◌-◌, ◌≤◌, List, map, length, take, Ok, Result, sym, refl, ap, ◌∙◌, arith, length-take-le}
use borrow.Rule.Slice.PartMut.{put_mid}
use Rattle.book_fields.specs.declared.field.Fault.{Fault}
use Rattle.grammar.specs.declared.index.TableIndex.{TableIndex}
use Rattle.book_source.specs.Readings.{Source, told}
use Rattle.grammar.specs.Grammar.{heading, rows, table}
use Rattle.grammar.specs.Layout.{Headed, table_of}
use Rattle.grammar.proofs.Layouts.{put_table_lem}
use Rattle.book_source.proofs.Steps.{read_ok, next_ok}

module _ (s₀ s₁ : Source) (sizes : List ℕ) (number first a b d x : ℕ) (t : TableIndex) (out new : List (List ℕ)) (xs : List ℕ) (n : ℕ) (one : Result TableIndex Fault) (two : Result ℕ Fault) where
  pub table_read : Headed (length sizes) first t → 8192 ≤ length out → length new ≡ t.count → xs ≡ take t.arity t.scope → n ≡ t.count → s₁ ≡ s₀
      → one ≡ Ok t → told (λ t. (take t.arity t.scope, t.count)) one b ≡ heading s₀ (length sizes) number first a
      → two ≡ Ok x → told (λ _. map (take (length xs)) new) two d ≡ rows s₁ number first sizes xs n b
      → Ok (table_of (put_mid first (first + t.count - first) out new) t, d) ≡ table s₀ sizes (number, first) a
  table_read h room long scoped counted same was head was₂ body =
      let arity : length (take t.arity t.scope) ≡ t.arity = length-take-le t.arity t.scope (omega (arith, h.few, h.full)) in
      let rest : rows s₀ number first sizes (take t.arity t.scope) t.count b ≡ Ok (map (take t.arity) new, d) =
      (λ i. rows s₀ number first sizes (sym scoped i) (sym counted i) b)
      ∙ read_ok (λ s. rows s number first sizes xs n) s₁ s₀ b (λ _. map (take (length xs)) new) same was₂ body
      ∙ (λ i. Ok (map (take ((ap length scoped ∙ arity) i)) new, d)) in
      (λ i. Ok (put_table_lem (length sizes) first t h out new long room i, d))
      ∙ sym (
      next_ok (heading s₀ (length sizes) number first) _ a _ b (read_ok (λ s. heading s (length sizes) number first) s₀ s₀ a (λ t. (take t.arity t.scope, t.count)) refl was head)
      ∙ next_ok (rows s₀ number first sizes (take t.arity t.scope) t.count) _ b _ d rest)
