use Rattle.std.proofs.Common.{◌≡◌, ℕ, ◌+◌, ◌-◌, ◌<◌, length, get_or, take}
use Rattle.grammar.specs.Grammar.{member, scope}
use Rattle.book_source.proofs.Each.{Sofar}
use Rattle.book_tables.proofs.scope.Given as goal

abbrev pub invariant-loop-j : goal.invariant-loop-j
invariant-loop-j g l =
    Sofar (λ s. member s l.table l.options) (λ c x. (c.0 + 1, x + 1)) (g.S.Source.gives l.initial.source) (g.S.Source.gives l.source)
    (take l.j l.place-items) (l.j, l.low) (l.count - l.j) (g.S.Source.place l.source)
    (scope (g.S.Source.gives l.initial.source) l.table l.options l.count (g.S.Source.place l.initial.source))
    × ((k : ℕ) → k < l.j → get_or l.place-items k 0 < l.options)
    × (length l.place-items ≡ l.count)
