use Rattle.std.proofs.Common.{◌+◌, ◌-◌, length, take}
use Rattle.grammar.specs.Grammar.{letter, letters}
use Rattle.book_source.proofs.Each.{Sofar}
use Rattle.reading.proofs.options.letters.Given as goal

abbrev pub invariant-loop-k : goal.invariant-loop-k
invariant-loop-k g l =
    Sofar letter (λ k _. k + 1) (g.S.Source.gives l.initial.source) (g.S.Source.gives l.source)
    (take l.k l.out) l.k (length l.initial.out - l.k) (g.S.Source.place l.source)
    (letters (g.S.Source.gives l.initial.source) (length l.initial.out) (g.S.Source.place l.initial.source))
