-- What the steps of any store keep of the boxes it holds, and the steps of the blank store.
use Rattle.std.proofs.Common.{sym, refl, subst, inl, inr}
use Rattle.boxes.specs.declared.ValueBox.{ValueBox}
use Rattle.store.specs.declared.blank.BlankStore.{BlankStore}
use Rattle.store.specs.Meaning.{Meaning, Emptied, Looked, Told, HoldsOnly}
use Rattle.store.specs.Blank.{blank}

module _ {S : Type 0} (m : Meaning S) (P : ValueBox → Type 0) where
  pub only_emptied : (s t : S) → Emptied m s t → HoldsOnly m P t
  only_emptied s t e x h = absurd (e.nothing x h)

  pub only_looked : (s : S) (b : ValueBox) (t : S) → Looked m s b t → HoldsOnly m P s → HoldsOnly m P t
  only_looked s b t l only x h = only x ((l.same x).1 h)

  pub only_told : (s : S) (b : ValueBox) (t : S) → Told m s b t → P b → HoldsOnly m P s → HoldsOnly m P t
  only_told s b t l p only x h = elim (l.grown x h) [ inl k ↦ only x k | inr e ↦ subst P (sym e) p ]

-- the blank store stays what it is
pub blank_emptied : (s : BlankStore) → Emptied blank s s
blank_emptied s = record { change = refl; nothing = λ x h. h }

pub blank_looked : (s : BlankStore) (b : ValueBox) → Looked blank s b s
blank_looked s b = record { change = refl; same = λ x. ((λ h. h), (λ h. h)) }

pub blank_told : (s : BlankStore) (b : ValueBox) → Told blank s b s
blank_told s b = record { change = refl; grown = λ x h. absurd h }
