use Rattle.std.proofs.Common.{◌≡◌, ◌+◌, ◌-◌, map, length, take}
use Rattle.grammar.specs.Grammar.{table, tables}
use Rattle.grammar.specs.Layout.{Laid, table_of}
use Rattle.book_source.proofs.Each.{Sofar}
use Rattle.book_tables.proofs.tables.Given as goal

abbrev pub invariant-loop-t : goal.invariant-loop-t
invariant-loop-t g l =
    Sofar (λ s. table s l.sizes) (λ c t. (c.0 + 1, c.1 + length t.rows)) (g.S.Source.gives l.initial.source) (g.S.Source.gives l.source)
    (map (table_of l.out) (take l.t l.place-items)) (l.t, l.first) (l.count - l.t) (g.S.Source.place l.source)
    (tables (g.S.Source.gives l.initial.source) l.sizes l.count (g.S.Source.place l.initial.source))
    × Laid (take l.t l.place-items) l.out l.first
    × (length l.place-items ≡ l.count)
