use Rattle.std.proofs.Common.{◌≡◌, ◌+◌, ◌-◌, length, take, drop, replicate}
use Rattle.grammar.specs.Grammar.{value, values}
use Rattle.book_source.proofs.Each.{Sofar}
use Rattle.book_tables.proofs.RowReader.values.Given as goal

abbrev pub invariant-loop-j : goal.invariant-loop-j
invariant-loop-j g l =
    Sofar (λ s. value s l.self.table l.row l.self.sizes.now l.self.scope.now) (λ j _. j + 1) (g.S.Source.gives l.initial.source) (g.S.Source.gives l.source)
    (take l.j l.read) l.j (length l.self.scope.now - l.j) (g.S.Source.place l.source)
    (values (g.S.Source.gives l.initial.source) l.self.table l.row l.self.sizes.now l.self.scope.now (g.S.Source.place l.initial.source))
    × (drop (length l.self.scope.now) l.read ≡ replicate (4 - length l.self.scope.now) 0)
    × (length l.read ≡ 4)
