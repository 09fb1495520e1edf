-- The meaning of the store that never holds anything.
use Rattle.std.specs.Prelude.{◌≡◌}
use Rattle.store.specs.declared.blank.BlankStore.{BlankStore}
use Rattle.store.specs.Meaning.{Meaning}

abbrev pub blank : Meaning BlankStore
blank = record {
  held = λ _ _. ⊥;
  emptied = λ s t. t ≡ s;
  looked = λ s _ t. t ≡ s;
  told = λ s _ t. t ≡ s;
}
