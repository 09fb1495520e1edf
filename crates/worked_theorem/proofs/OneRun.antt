-- An ask has one result, over a store whose steps leave one thing.
use Rattle.std.proofs.Common.{◌≡◌, ℕ, ◌+◌, List, Option, sym, refl, ap, subst}
use Rattle.grammar.specs.Contents.{Contents}
use Rattle.boxes.specs.declared.ValueBox.{ValueBox}
use Rattle.store.specs.Meaning.{Meaning}
use Rattle.trials.specs.Picks.{Picked}
use Rattle.trials.specs.Trials.{Verdict, refuted, found, Over, Unspent, Narrows, Boxed, cut_to, cut_from, Trial, spent, emptied, settled, seen, left, right, both}
use Rattle.trials.proofs.PlainTrees.{not_over, not_emptied, one_next, settled_once, not_settled, one_half}
use Rattle.trials.proofs.SomeBox.{same_box}

-- Stores that are alike hold the same boxes, and the same steps leave them alike.
pub record Steady {S : Type 0} (m : Meaning S) (Alike : S → S → Type 0) : Type 0 where
  pub there : {s t : S} → Alike s t → (b : ValueBox) → m.held s b → m.held t b
  pub back : {s t : S} → Alike s t → (b : ValueBox) → m.held t b → m.held s b
  pub looks : {s t u w : S} (b : ValueBox) → Alike s t → m.looked s b u → m.looked t b w → Alike u w
  pub tells : {s t u w : S} (b : ValueBox) → Alike s t → m.told s b u → m.told t b w → Alike u w

-- two ends of a trial agree
pub record Same {S : Type 0} (Alike : S → S → Type 0) (v w : Verdict) (t u : S) (k j : ℕ) : Type 0 where
  pub verdict : v ≡ w
  pub store : Alike t u
  pub count : k ≡ j

-- ---- a trial that branches, by its halves

data Halved (c : Contents) (S : Type 0) (m : Meaning S) (budget : Option ℕ) (next : List ℕ) (x v : ℕ) (b : ValueBox) (s : S) (n : ℕ) : Verdict → S → ℕ → Type 0 where
  h_left : {t u : S} {w : Verdict} {k : ℕ} → m.looked s b t → Trial c S m budget (cut_to next x v) t (n + 1) w u k → Over w → Halved c S m budget next x v b s n w u k
  h_right : {t u z : S} {w : Verdict} {k j : ℕ} → m.looked s b t → Trial c S m budget (cut_to next x v) t (n + 1) refuted u k
      → Trial c S m budget (cut_from next x v) u k w z j → Over w → Halved c S m budget next x v b s n w z j
  h_both : {t u y z : S} {w : Verdict} {k j : ℕ} → refuted ≡ w → m.looked s b t → Trial c S m budget (cut_to next x v) t (n + 1) refuted u k
      → Trial c S m budget (cut_from next x v) u k refuted y j → m.told y b z → Halved c S m budget next x v b s n w z j

module _ (c : Contents) (S : Type 0) (m : Meaning S) (budget : Option ℕ) where
  box_same : (array : List ℕ) {next other : List ℕ} {a b : ValueBox} → Narrows c array next → Narrows c array other → Boxed c next a → Boxed c other b → a ≡ b
  box_same array {next} {other} {a} {b} p q x y = same_box c other a b (subst (λ n. Boxed c n a) (one_next c array p q) x) y

  halved : {array : List ℕ} {s u : S} {w : Verdict} {n k : ℕ} → Trial c S m budget array s n w u k → {next : List ℕ} {x v : ℕ} {b : ValueBox}
      → Unspent budget n → Narrows c array next → Picked c next x v → Boxed c next b → (m.held s b → ⊥) → Halved c S m budget next x v b s n w u k
  halved (spent z) free p q o out = absurd (free z)
  halved {array} (emptied z e) free p q o out = absurd (not_emptied c array e p)
  halved {array} (settled z p' one) free p q o out = absurd (not_settled c array p' p one q)
  halved {array} {s} (seen z p' q' o' held look) free p q o out = absurd (out (subst (m.held s) (box_same array p' p o' o) held))
  halved {array} {s} {u} {w} {n} {k} (left {t = t} z br one over) free p q o out =
      h_left (subst (λ b. m.looked s b t) (box_same array br.narrows p br.boxed o) br.looked.change)
      (subst (λ a. Trial c S m budget a t (n + 1) w u k) (one_half c array p br.narrows q br.picked cut_to) one) over
  halved {array} {s} {u = z} {w} {n} {k = j} (right {k = k} {t = t} {u = u} f br one two over) free p q o out =
      h_right (subst (λ b. m.looked s b t) (box_same array br.narrows p br.boxed o) br.looked.change)
      (subst (λ a. Trial c S m budget a t (n + 1) refuted u k) (one_half c array p br.narrows q br.picked cut_to) one)
      (subst (λ a. Trial c S m budget a u k w z j) (one_half c array p br.narrows q br.picked cut_from) two) over
  halved {array} {s} {u = z} {w} {n} {k = j} (both {k = k} {t = t} {u = u} {w = y} f br one two told) free p q o out =
      h_both refl (subst (λ b. m.looked s b t) (box_same array br.narrows p br.boxed o) br.looked.change)
      (subst (λ a. Trial c S m budget a t (n + 1) refuted u k) (one_half c array p br.narrows q br.picked cut_to) one)
      (subst (λ a. Trial c S m budget a u k refuted y j) (one_half c array p br.narrows q br.picked cut_from) two)
      (subst (λ b. m.told y b z) (box_same array br.narrows p br.boxed o) told.change)

  -- a trial before which as many have begun
  begun : {array : List ℕ} {s t : S} {v : Verdict} {i j k : ℕ} → i ≡ j → Trial c S m budget array s j v t k → Trial c S m budget array s i v t k
  begun {array} {s} {t} {v} {k = k} e h = subst (λ n. Trial c S m budget array s n v t k) (sym e) h

  module _ (Alike : S → S → Type 0) (steady : Steady m Alike) where
    pub one_run : {array : List ℕ} {s t : S} {v : Verdict} {n k : ℕ} → Trial c S m budget array s n v t k → {s' t' : S} {v' : Verdict} {k' : ℕ}
        → Alike s s' → Trial c S m budget array s' n v' t' k' → Same Alike v v' t t' k k'
    one_run (spent z) r (spent y) = record { verdict = refl; store = r; count = refl }
    one_run (spent z) r (emptied f e) = absurd (f z)
    one_run (spent z) r (settled f p one) = absurd (f z)
    one_run (spent z) r (seen f p q o held look) = absurd (f z)
    one_run (spent z) r (left f br one over) = absurd (f z)
    one_run (spent z) r (right f br one two over) = absurd (f z)
    one_run (spent z) r (both f br one two told) = absurd (f z)
    one_run (emptied f e) r (spent z) = absurd (f z)
    one_run (emptied f e) r (emptied g d) = record { verdict = refl; store = r; count = refl }
    one_run {array} (emptied f e) r (settled g p one) = absurd (not_emptied c array e p)
    one_run {array} (emptied f e) r (seen g p q o held look) = absurd (not_emptied c array e p)
    one_run {array} (emptied f e) r (left g br one over) = absurd (not_emptied c array e br.narrows)
    one_run {array} (emptied f e) r (right g br one two over) = absurd (not_emptied c array e br.narrows)
    one_run {array} (emptied f e) r (both g br one two told) = absurd (not_emptied c array e br.narrows)
    one_run (settled f p single) r (spent z) = absurd (f z)
    one_run {array} (settled f p single) r (emptied g e) = absurd (not_emptied c array e p)
    one_run {array} (settled f p single) r (settled g p' single') = record { verdict = ap found (settled_once c array p p' single single'); store = r; count = refl }
    one_run {array} (settled f p single) r (seen g p' q o held look) = absurd (not_settled c array p p' single q)
    one_run {array} (settled f p single) r (left g br one over) = absurd (not_settled c array p br.narrows single br.picked)
    one_run {array} (settled f p single) r (right g br one two over) = absurd (not_settled c array p br.narrows single br.picked)
    one_run {array} (settled f p single) r (both g br one two told) = absurd (not_settled c array p br.narrows single br.picked)
    one_run (seen f p q o held look) r (spent z) = absurd (f z)
    one_run {array} (seen f p q o held look) r (emptied g e) = absurd (not_emptied c array e p)
    one_run {array} (seen f p q o held look) r (settled g p' single) = absurd (not_settled c array p' p single q)
    one_run {array} (seen {b = b} f p q o held look) {s'} {t'} r (seen g p' q' o' held' look') = record {
      verdict = refl;
      store = steady.looks b r look.change (subst (λ b. m.looked s' b t') (sym (box_same array p p' o o')) look'.change);
      count = refl;
    }
    one_run {array} (seen {b = b} f p q o held look) {s'} r (left g br one over) = absurd (br.fresh (subst (m.held s') (box_same array p br.narrows o br.boxed) (steady.there r b held)))
    one_run {array} (seen {b = b} f p q o held look) {s'} r (right g br one two over) = absurd (br.fresh (subst (m.held s') (box_same array p br.narrows o br.boxed) (steady.there r b held)))
    one_run {array} (seen {b = b} f p q o held look) {s'} r (both g br one two told) = absurd (br.fresh (subst (m.held s') (box_same array p br.narrows o br.boxed) (steady.there r b held)))
    one_run (left {b = b} f br one over) r other = elim (halved other f br.narrows br.picked br.boxed (λ h. br.fresh (steady.back r b h))) [
      | h_left look one' over' ↦ one_run one (steady.looks b r br.looked.change look) one'
      | h_right look one' two' over' ↦ absurd (not_over over (sym (one_run one (steady.looks b r br.looked.change look) one').verdict))
      | h_both is look one' two' told' ↦ absurd (not_over over (sym (one_run one (steady.looks b r br.looked.change look) one').verdict))
    ]
    one_run (right {b = b} f br one two over) r other = elim (halved other f br.narrows br.picked br.boxed (λ h. br.fresh (steady.back r b h))) [
      | h_left look one' over' ↦ absurd (not_over over' (one_run one (steady.looks b r br.looked.change look) one').verdict)
      | h_right look one' two' over' ↦
          let i = one_run one (steady.looks b r br.looked.change look) one' in
          one_run two i.store (begun i.count two')
      | h_both is look one' two' told' ↦
          let i = one_run one (steady.looks b r br.looked.change look) one' in
          absurd (not_over over (sym (one_run two i.store (begun i.count two')).verdict))
    ]
    one_run (both {b = b} f br one two told) r other = elim (halved other f br.narrows br.picked br.boxed (λ h. br.fresh (steady.back r b h))) [
      | h_left look one' over' ↦ absurd (not_over over' (one_run one (steady.looks b r br.looked.change look) one').verdict)
      | h_right look one' two' over' ↦
          let i = one_run one (steady.looks b r br.looked.change look) one' in
          absurd (not_over over' (one_run two i.store (begun i.count two')).verdict)
      | h_both is look one' two' told' ↦
          let i = one_run one (steady.looks b r br.looked.change look) one' in
          let h = one_run two i.store (begun i.count two') in
          record { verdict = is; store = steady.tells b h.store told.change told'; count = h.count }
    ]
