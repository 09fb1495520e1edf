-- A store that holds dead boxes only changes no answer and adds no trial.
use Rattle.std.proofs.Common.{◌≡◌, ℕ, ◌+◌, ◌<◌, ◌≤◌, List, length, Some, None, Option, sym, refl, subst, inl, inr, arith}
use Rattle.grammar.specs.Contents.{Contents, Valid}
use Rattle.boxes.specs.declared.ValueBox.{ValueBox}
use Rattle.reduce.specs.Laws.{HasFit}
use Rattle.reduce.proofs.Changes.{dead_box, inside_meets}
use Rattle.store.specs.Meaning.{Meaning, HoldsOnly}
use Rattle.store.proofs.Steps.{only_looked, only_told}
use Rattle.trials.specs.Trials.{Verdict, refuted, found, stopped, Spent, Narrows, Boxed, Trial, spent, emptied, settled, seen, left, right, both}
use Rattle.trials.specs.Laws.{Right, Dead, MemoryLosesNoFit}
use Rattle.trials.proofs.PlainTrees.{Tree, t_emptied, t_settled, some_trial, tree, one_tree, branched, not_over}
use Rattle.trials.proofs.RightAnswers.{right_answer, narrowed_within, within_narrowed, long_left, long_right}

-- ---- verdicts

refuted_ended : refuted ≡ stopped → ⊥
refuted_ended = not_over tt

found_ended : (values : List ℕ) → found values ≡ stopped → ⊥
found_ended values e = let z : ◌≡◌ {A = ℕ} 0 1 = cc in omega arith

spent_at : (budget : Option ℕ) (n : ℕ) → Spent budget n → (b : ℕ) × (budget ≡ Some b) × (n ≡ b)
spent_at None n z = absurd z
spent_at (Some b) n z = (b, refl, z)

refuted_without : (c : Contents) (array : List ℕ) (v : Verdict) → Right c array v → (HasFit c array → ⊥) → refuted ≡ v
refuted_without c array refuted r none = refl
refuted_without c array (found values) r none = absurd (none (values, r.0, r.1))
refuted_without c array stopped r none = absurd r

-- ---- agreement

module _ (c : Contents) (ok : Valid c) (S : Type 0) (m : Meaning S) (budget : Option ℕ) where
  -- after n trials
  record From (n : ℕ) (v : Verdict) (t : S) (total : ℕ) (w : Verdict) (k : ℕ) : Type 0 where
    dead : HoldsOnly m (Dead c) t
    same : (v ≡ stopped → ⊥) → v ≡ w
    fewer : total ≤ n + k
    short : v ≡ stopped → (b : ℕ) × (budget ≡ Some b) × (total ≡ b) × (b < n + k)

  module _ {array next : List ℕ} {b : ValueBox} (p : Narrows c array next) (boxed : Boxed c next b) where
    -- no fit lies inside sets with a dead box
    none_inside : Dead c b → HasFit c array → ⊥
    none_inside dead (values, fit, inside) = dead values fit (inside_meets c next b.sets values boxed.box (within_narrowed c ok array next p values fit inside))

    none_meets : (HasFit c array → ⊥) → Dead c b
    none_meets none =
        dead_box c ok next b.sets (λ x l. omega (arith, p.propagated.some x l, p.propagated.exact x l)) boxed.box
        (λ (values, fit, inside). none (values, fit, narrowed_within c ok array next p values inside))

  agrees : {array : List ℕ} {s : S} {n : ℕ} {v : Verdict} {t : S} {total : ℕ} → Trial c S m budget array s n v t total → length array ≡ 24 → HoldsOnly m (Dead c) s
      → (w : Verdict) (k : ℕ) → Tree c array w k → From n v t total w k
  agrees {n = n} (spent z) long only w k t = record {
    dead = only;
    same = λ ended. absurd (ended refl);
    fewer = omega arith;
    short = λ _. let r = spent_at budget n z in (r.0, r.1, r.2, omega (arith, r.2, some_trial t));
  }
  agrees (emptied z e) long only w k t =
      let i = one_tree (t_emptied e) w k t in
      record { dead = only; same = λ _. i.0; fewer = omega (arith, i.1); short = λ h. absurd (refuted_ended h) }
  agrees (settled {values = values} z p s) long only w k t =
      let i = one_tree (t_settled p s) w k t in
      record { dead = only; same = λ _. i.0; fewer = omega (arith, i.1); short = λ h. absurd (found_ended values h) }
  agrees {array} (seen {b = b} {s = s} {t = u} z p q boxed held looked) long only w k t = record {
    dead = only_looked m (Dead c) s b u looked only;
    same = λ _. refuted_without c array w (right_answer ok long t) (none_inside p boxed (only b held));
    fewer = omega (arith, some_trial t);
    short = λ h. absurd (refuted_ended h);
  }
  agrees {array} (left {next = next} {option = x} {value = y} {n = n} {b = b} {s = s} {t = u} z br t o) long only w k whole =
      let only' = only_looked m (Dead c) s b u br.looked only in
      let long' = long_left c ok array next br.narrows long x y br.picked in
      elim (branched whole br.narrows br.picked) [
        | inl l ↦
            let i = agrees t long' only' w l.count l.first in
            record {
              dead = i.dead;
              same = i.same;
              fewer = omega (arith, i.fewer, l.is);
              short = λ h. let r = i.short h in (r.0, r.1, r.2, omega (arith, r.3, l.is));
            }
        | inr l ↦
            let i = agrees t long' only' refuted l.count l.first in
            record {
              dead = i.dead;
              same = λ ended. absurd (not_over o (sym (i.same ended)));
              fewer = omega (arith, i.fewer, l.is);
              short = λ h. let r = i.short h in (r.0, r.1, r.2, omega (arith, r.3, l.is));
            }
      ]
  agrees {array} (right {next = next} {option = x} {value = y} {n = n} {b = b} {s = s} {t = u} z br t t' o) long only w k whole =
      let only' = only_looked m (Dead c) s b u br.looked only in
      let long' = long_left c ok array next br.narrows long x y br.picked in
      let long'' = long_right c ok array next br.narrows long x y br.picked in
      elim (branched whole br.narrows br.picked) [
        | inl l ↦ absurd (not_over l.over ((agrees t long' only' w l.count l.first).same refuted_ended))
        | inr l ↦
            let i = agrees t long' only' refuted l.count l.first in
            let j = agrees t' long'' i.dead w l.more l.second in
            record {
              dead = j.dead;
              same = j.same;
              fewer = omega (arith, i.fewer, j.fewer, l.is);
              short = λ h. let r = j.short h in (r.0, r.1, r.2, omega (arith, r.3, i.fewer, l.is));
            }
      ]
  agrees {array} (both {next = next} {option = x} {value = y} {n = n} {b = b} {s = s} {t = u} {w = w'} {z = z'} z br t t' told) long only w k whole =
      let only' = only_looked m (Dead c) s b u br.looked only in
      let long' = long_left c ok array next br.narrows long x y br.picked in
      let long'' = long_right c ok array next br.narrows long x y br.picked in
      elim (branched whole br.narrows br.picked) [
        | inl l ↦ absurd (not_over l.over ((agrees t long' only' w l.count l.first).same refuted_ended))
        | inr l ↦
            let i = agrees t long' only' refuted l.count l.first in
            let j = agrees t' long'' i.dead w l.more l.second in
            let e = j.same refuted_ended in
            record {
              dead = only_told m (Dead c) w' b z' told (none_meets br.narrows br.boxed (subst (Right c array) (sym e) (right_answer ok long whole))) j.dead;
              same = λ _. e;
              fewer = omega (arith, i.fewer, j.fewer, l.is);
              short = λ h. absurd (refuted_ended h);
            }
      ]

pub memory_loses_no_fit_lem : (S : Type 0) (m : Meaning S) → MemoryLosesNoFit S m
memory_loses_no_fit_lem S m c ok budget array long s t v w n k only asks plain =
    let p = tree plain in
    let i = agrees c ok S m budget asks long only w p.0 p.2 in
    record {
      dead = i.dead;
      same = i.same;
      fewer = omega (arith, i.fewer, p.1);
      short = λ h. let r = i.short h in (r.0, r.1, r.2, omega (arith, r.3, p.1));
    }
