use Rattle.std.proofs.Common.{◌+◌, ◌-◌, map, length, take, Some}
use Rattle.std.specs.Option.{option_map}
use Rattle.std.specs.List.{AllByRecursion}
use Rattle.grammar.specs.Grammar.{row, rows}
use Rattle.grammar.specs.Layout.{Padded}
use Rattle.book_source.proofs.Each.{Sofar}
use Rattle.book_tables.proofs.RowReader.rows.Given as goal

abbrev pub invariant-loop-i : goal.invariant-loop-i
invariant-loop-i g l =
    Sofar (λ s. row s l.self.table l.self.sizes.now l.self.scope.now) (λ c x. (c.0 + 1, Some x)) (g.S.Source.gives l.initial.source) (g.S.Source.gives l.source)
    (map (take (length l.self.scope.now)) (take l.i l.out)) (l.first + l.i, option_map (take (length l.self.scope.now)) l.last) (length l.initial.out - l.i) (g.S.Source.place l.source)
    (rows (g.S.Source.gives l.initial.source) l.self.table l.first l.self.sizes.now l.self.scope.now (length l.initial.out) (g.S.Source.place l.initial.source))
    × AllByRecursion (Padded (length l.self.scope.now)) (take l.i l.out)
