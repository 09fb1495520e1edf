-- The meaning of a store of two boxes that heeds only every other tell, and changes their order at each look.
use Rattle.std.specs.Prelude.{◌≡◌, Bool, true, false, ◌⊎◌, Some, None, Option}
use Rattle.boxes.specs.declared.ValueBox.{ValueBox}
use Rattle.store.specs.Meaning.{Meaning}
use Rattle.forgetful.specs.declared.ForgetfulStore.{ForgetfulStore}

abbrev pub made : Option ValueBox → Option ValueBox → Bool → ForgetfulStore
made first second heeds = record { first = first; second = second; heeds = heeds }

-- the store after a tell, by whether it heeds it
abbrev pub after : ForgetfulStore → ValueBox → Bool → ForgetfulStore
after s b true = made (Some b) s.first false
after s b false = made s.first s.second true

abbrev pub forgetful : Meaning ForgetfulStore
forgetful = record {
  held = λ s x. (s.first ≡ Some x) ⊎ (s.second ≡ Some x);
  emptied = λ s t. t ≡ made None None s.heeds;
  looked = λ s _ t. t ≡ made s.second s.first s.heeds;
  told = λ s b t. t ≡ after s b s.heeds;
}
