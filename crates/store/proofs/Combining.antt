-- The key, one set after another.
use Rattle.std.proofs.Common.{◌≡◌, ℕ, List, [], ◌∷◌, refl}
use Rattle.std.specs.List.{fold}
use Rattle.store.specs.Key.{combined, key_from}

pub key_from_fold : (sets : List ℕ) (k : ℕ) → fold combined k sets ≡ key_from k sets
key_from_fold [] k = refl
key_from_fold (set ∷ sets) k = key_from_fold sets (combined k set)
