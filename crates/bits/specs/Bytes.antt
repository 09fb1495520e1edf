-- Bits as bytes.
use Rattle.std.specs.Prelude.{ℕ, zero, suc, ◌/◌, List, [], ◌∷◌, length, take, drop}
use Rattle.bits.specs.Bits.{number}

-- the first k bytes that bits make
abbrev pub bytes : ℕ → List ℕ → List ℕ
bytes zero bs = []
bytes (suc k) bs = number (take 8 bs) ∷ bytes k (drop 8 bs)

-- the bytes that bits make, of which there are whole bytes
abbrev pub packed : List ℕ → List ℕ
packed bs = bytes (length bs / 8) bs
