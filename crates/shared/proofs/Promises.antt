-- From an ask over the starting sets to what it promises where decisions stand.
use Rattle.std.proofs.Common.{◌≡◌, ℕ, ◌<◌, ◌≤◌, true, List, length, get_or, Some, sym, ◌∙◌, subst, ⊎_elim, arith}
use Rattle.std.proofs.lemmas.List.{same_lists, get_or_default}
use Rattle.std.proofs.lemmas.Bool.{cases_lt}
use Rattle.grammar.specs.Contents.{Contents, Fit, Valid}
use Rattle.values.proofs.Digits.{in_mod, mod_in, same_from_values}
use Rattle.propagate.specs.Laws.{Within}
use Rattle.store.specs.Meaning.{Meaning, HoldsOnly}
use Rattle.trials.specs.Trials.{Verdict, refuted, found, stopped, Asks, Plain}
use Rattle.trials.specs.Laws.{Dead, Right}
use Rattle.trials.proofs.PlainEnds.{plain_ends, answers_are_right_lem}
use Rattle.trials.proofs.Remembering.{memory_loses_no_fit_lem}
use Rattle.sheet.specs.declared.decision.Kind.{Kind}
use Rattle.sheet.specs.Decisions.{is_person}
use Rattle.sheet.specs.Starts.{Standing, ByAny, Leaves, Starts, MeetsAll}
use Rattle.shared.specs.Sharing.{RightFor, Promised}

some_so : {a b : ℕ} → Some a ≡ Some b → b ≡ a
some_so e = cc

-- two ways of saying what stands, for both people and the options of a book
abbrev pub Alike : Standing → Standing → Type 0
Alike a b = (p : ℕ) (k : Kind) (x v : ℕ) → is_person p ≡ true → x < 24 → a p k x v ≡ b p k x v

by_any_alike : (a b : Standing) → Alike a b → (k : Kind) (x v : ℕ) → x < 24 → ByAny b k x v → ByAny a k x v
by_any_alike a b e k x v lt h = (h.0, h.1, e h.0 k x v h.1 lt ∙ h.2)

alike_back : (a b : Standing) → Alike a b → Alike b a
alike_back a b e p k x v P X = sym (e p k x v P X)

leaves_alike : (a b : Standing) → Alike a b → (x v : ℕ) → x < 24 → Leaves a x v → Leaves b x v
leaves_alike a b e x v lt l = record {
  fixed = λ o h. l.fixed o (by_any_alike a b e _ x o lt h);
  barred = λ h. l.barred (by_any_alike a b e _ x v lt h);
}

module _ (c : Contents) (few : length c.sizes ≤ 24) where
  pub starts_alike : (a b : Standing) → Alike a b → (array : List ℕ) → Starts c a array → Starts c b array
  starts_alike a b e array s = record {
    long = s.long;
    sound = λ x v lt i. let r = s.sound x v lt i in (r.0, leaves_alike a b e x v (omega arith) r.1);
    whole = λ x v lt h l. s.whole x v lt h (leaves_alike b a (alike_back a b e) x v (omega arith) l);
    lacking = s.lacking;
  }

module _ (c : Contents) (stands : Standing) where
  -- decisions leave one array of sets
  pub starts_once : (a b : List ℕ) → Starts c stands a → Starts c stands b → a ≡ b
  starts_once a b s t =
      let even : length a ≡ length b = s.long ∙ sym t.long in
      let at : (x : ℕ) → get_or a x 0 ≡ get_or b x 0 = λ x. ⊎_elim
      (λ lt. same_from_values (get_or a x 0) (get_or b x 0)
      (λ v i. let r = s.sound x v lt i in t.whole x v lt r.0 r.1)
      (λ v i. let r = t.sound x v lt i in s.whole x v lt r.0 r.1))
      (λ ge. s.lacking x ge ∙ sym (t.lacking x ge))
      (cases_lt x (length c.sizes)) in
      same_lists a b even (λ x d h. get_or_default a x d 0 h ∙ at x ∙ get_or_default b x 0 d (omega arith))

  module _ (array : List ℕ) (s : Starts c stands array) where
    meets_within : (values : List ℕ) → Fit c values → MeetsAll c stands values → Within c array values
    meets_within values fit meets x lt = mod_in (get_or array x 0) (get_or c.sizes x 0) (get_or values x 0) (fit.within x lt) (s.whole x (get_or values x 0) lt (fit.within x lt) (meets x lt))

    within_meets : (values : List ℕ) → Within c array values → MeetsAll c stands values
    within_meets values w x lt = (s.sound x (get_or values x 0) lt (in_mod (get_or array x 0) (get_or c.sizes x 0) (get_or values x 0) (w x lt)).0).1

    right_for : (v : Verdict) → Right c array v → RightFor c stands v
    right_for refuted r = λ values fit meets. r (values, fit, meets_within values fit meets)
    right_for (found values) r = (r.0, within_meets values r.1)
    right_for stopped r = r

module _ (c : Contents) (valid : Valid c) {S : Type 0} (m : Meaning S) (budget n : ℕ) (array : List ℕ) (s t : S) (v : Verdict)
    (dead : HoldsOnly m (Dead c) s) (asked : Asks c S m (Some budget) array s v t n) where
  -- the store still holds dead boxes only
  pub stays_dead : length array ≡ 24 → HoldsOnly m (Dead c) t
  stays_dead long = let p = plain_ends c valid array long in (memory_loses_no_fit_lem _ m c valid (Some budget) array long s t v p.0 n p.1 dead asked p.2).dead

  -- what the ask promises where decisions stand that leave these starting sets
  pub promised : (stands : Standing) → Starts c stands array → Promised c stands budget v n
  promised stands st =
      let long = st.long in
      let p = plain_ends c valid array long in
      record {
        right = λ on. right_for c stands array st v (answers_are_right_lem _ m c valid (Some budget) array long s t v n dead asked on);
        plain = (array, p.0, p.1, st, p.2, p.3);
        agrees = λ other st' w k plain.
            let a = memory_loses_no_fit_lem _ m c valid (Some budget) array long s t v w n k dead asked (subst (λ l. Plain c l w k) (starts_once c stands other array st' st) plain) in
            record {
              same = a.same;
              fewer = a.fewer;
              short = λ e. let b = a.short e in let is : b.0 ≡ budget = some_so b.1 in omega (arith, b.3);
            };
      }
