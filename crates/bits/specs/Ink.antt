-- What a pen has written: whole bytes, and the bits that wait.
use Rattle.std.specs.Prelude.{ℕ, ◌+◌, ◌*◌, List, ◌++◌, take}
use Rattle.bits.specs.Bits.{spell, bits}
use Rattle.bits.specs.declared.pen.Pen.{Pen}

abbrev pub ink : List ℕ → ℕ → ℕ → ℕ → List ℕ
ink out at count held = bits (take at out) ++ spell count held

abbrev pub inked : List ℕ → Pen → List ℕ
inked out p = ink out p.at p.count p.held

-- how many bits those are
abbrev pub place : Pen → ℕ
place p = 8 * p.at + p.count
