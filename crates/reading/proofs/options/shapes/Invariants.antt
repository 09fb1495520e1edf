use Rattle.std.proofs.Common.{◌≡◌, ◌+◌, ◌-◌, ◌*◌, ◌≤◌, take, sum}
use Rattle.book_source.specs.Readings.{each}
use Rattle.grammar.specs.Grammar.{shape}
use Rattle.book_source.proofs.Each.{Sofar}
use Rattle.reading.proofs.Pairs.{pairs}
use Rattle.reading.proofs.options.shapes.Given as goal

abbrev pub invariant-loop-i : goal.invariant-loop-i
invariant-loop-i g l =
    Sofar shape (λ i _. i + 1) (g.S.Source.gives l.initial.source) (g.S.Source.gives l.source)
    (pairs (take l.i l.sizes) (take l.i l.lengths)) l.i (l.count - l.i) (g.S.Source.place l.source)
    (each (shape (g.S.Source.gives l.initial.source)) (λ i _. i + 1) 0 l.count (g.S.Source.place l.initial.source))
    × (l.total ≡ sum (take l.i l.lengths))
    × (l.total ≤ 16 * l.i)
