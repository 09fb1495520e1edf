-- The plain ask as a tree of trials, without a store and without boxes.
use Rattle.std.proofs.Common.{◌≡◌, ℕ, ◌+◌, ◌≤◌, ◌⊎◌, List, None, sym, refl, ap, ◌∙◌, subst, ap₂, inl, inr, arith}
use Rattle.grammar.specs.Contents.{Contents}
use Rattle.propagate.specs.Sets.{sets_of}
use Rattle.propagate.specs.Propagation.{LeavesNone}
use Rattle.propagate.proofs.Fits.{never_none, same_array}
use Rattle.store.specs.Blank.{blank}
use Rattle.store.specs.declared.blank.BlankStore.{BlankStore}
use Rattle.trials.specs.Picks.{Picked, Single}
use Rattle.trials.specs.Trials.{Verdict, refuted, found, Over, Narrows, cut_to, cut_from, Trial, spent, emptied, settled, seen, left, right, both}
use Rattle.trials.specs.Laws.{PlainHasOneResult}
use Rattle.trials.proofs.OnePick.{one_option, one_pick, none_to_pick, one_single}

-- the trial of an array ends with this verdict, after so many trials in all
pub data Tree (c : Contents) : List ℕ → Verdict → ℕ → Type 0 where
  t_emptied : {array : List ℕ} → LeavesNone c (sets_of c array) → Tree c array refuted 1
  t_settled : {array next values : List ℕ} → Narrows c array next → Single c next values → Tree c array (found values) 1
  t_left : {array next : List ℕ} {x v k : ℕ} {w : Verdict} → Narrows c array next → Picked c next x v → Tree c (cut_to next x v) w k → Over w → Tree c array w (k + 1)
  t_right : {array next : List ℕ} {x v k j : ℕ} {w : Verdict} → Narrows c array next → Picked c next x v → Tree c (cut_to next x v) refuted k → Tree c (cut_from next x v) w j → Tree c array w (k + j + 1)

pub some_trial : {c : Contents} {array : List ℕ} {v : Verdict} {k : ℕ} → Tree c array v k → 1 ≤ k
some_trial (t_emptied e) = omega arith
some_trial (t_settled p s) = omega arith
some_trial (t_left p q t o) = omega arith
some_trial (t_right p q t u) = omega arith

-- ---- the trials of the plain ask make a tree

pub tree : {c : Contents} {array : List ℕ} {s t : BlankStore} {v : Verdict} {n k : ℕ} → Trial c BlankStore blank None array s n v t k → (j : ℕ) × (k ≡ n + j) × Tree c array v j
tree (spent z) = absurd z
tree (emptied z e) = (1, refl, t_emptied e)
tree (settled z p s) = (1, refl, t_settled p s)
tree (seen z p q b h l) = absurd h
tree (left z b t o) = let r = tree t in (r.0 + 1, omega (arith, r.1), t_left b.narrows b.picked r.2 o)
tree (right z b t u o) = let r = tree t in let q = tree u in (r.0 + q.0 + 1, omega (arith, r.1, q.1), t_right b.narrows b.picked r.2 q.2)
tree (both z b t u h) = let r = tree t in let q = tree u in (r.0 + q.0 + 1, omega (arith, r.1, q.1), t_right b.narrows b.picked r.2 q.2)

-- ---- which trials exclude which

pub not_over : {v : Verdict} → Over v → refuted ≡ v → ⊥
not_over o e = subst Over (sym e) o

module _ (c : Contents) (array : List ℕ) where
  pub not_emptied : {next : List ℕ} → LeavesNone c (sets_of c array) → Narrows c array next → ⊥
  not_emptied {next} e p = never_none c array next p.propagated e

  module _ {next other : List ℕ} (p : Narrows c array next) (q : Narrows c array other) where
    pub one_next : next ≡ other
    one_next = same_array c array next p.propagated other q.propagated (p.long ∙ sym q.long)

    pub settled_once : {a b : List ℕ} → Single c next a → Single c other b → a ≡ b
    settled_once {a} {b} s t = one_single c other a b (subst (λ n. Single c n a) one_next s) t

    pub not_settled : {values : List ℕ} {x v : ℕ} → Single c next values → Picked c other x v → ⊥
    not_settled {values} {x} {v} s t = none_to_pick c other values x v (subst (λ n. Single c n values) one_next s) t

    -- either half is the same
    pub one_half : {x y v w : ℕ} → Picked c next x v → Picked c other y w → (half : List ℕ → ℕ → ℕ → List ℕ) → half other y w ≡ half next x v
    one_half {x} {y} {v} {w} s t half =
        let moved = subst (λ n. Picked c n x v) one_next s in
        ap₂ (half other) (one_option c other y x w v t moved) (one_pick c other y x w v t moved) ∙ ap (λ n. half n x v) (sym one_next)

-- ---- the tree of a trial that branches

-- the first half ends the ask
pub record LeftOf (c : Contents) (next : List ℕ) (x v : ℕ) (w : Verdict) (k : ℕ) : Type 0 where
  pub count : ℕ
  pub is : k ≡ count + 1
  pub first : Tree c (cut_to next x v) w count
  pub over : Over w

-- the first half is refuted
pub record RightOf (c : Contents) (next : List ℕ) (x v : ℕ) (w : Verdict) (k : ℕ) : Type 0 where
  pub count : ℕ
  pub more : ℕ
  pub is : k ≡ count + more + 1
  pub first : Tree c (cut_to next x v) refuted count
  pub second : Tree c (cut_from next x v) w more

pub branched : {c : Contents} {array : List ℕ} {w : Verdict} {k : ℕ} → Tree c array w k → {next : List ℕ} {x v : ℕ} → Narrows c array next → Picked c next x v → LeftOf c next x v w k ⊎ RightOf c next x v w k
branched {c} {array} (t_emptied e) p q = absurd (not_emptied c array e p)
branched {c} {array} (t_settled p' s) p q = absurd (not_settled c array p' p s q)
branched {c} {array} {w} (t_left {k = k} p' q' t o) p q = inl record { count = k; is = refl; first = subst (λ a. Tree c a w k) (one_half c array p p' q q' cut_to) t; over = o }
branched {c} {array} {w} (t_right {k = k} {j = j} p' q' t u) p q = inr record {
  count = k;
  more = j;
  is = refl;
  first = subst (λ a. Tree c a refuted k) (one_half c array p p' q q' cut_to) t;
  second = subst (λ a. Tree c a w j) (one_half c array p p' q q' cut_from) u;
}

-- ---- one tree

pub one_tree : {c : Contents} {array : List ℕ} {v : Verdict} {k : ℕ} → Tree c array v k → (w : Verdict) (j : ℕ) → Tree c array w j → (v ≡ w) × (k ≡ j)
one_tree (t_emptied e) w j (t_emptied f) = (refl, refl)
one_tree {c} {array} (t_emptied e) w j (t_settled p s) = absurd (not_emptied c array e p)
one_tree {c} {array} (t_emptied e) w j (t_left p q t o) = absurd (not_emptied c array e p)
one_tree {c} {array} (t_emptied e) w j (t_right p q t u) = absurd (not_emptied c array e p)
one_tree {c} {array} (t_settled p s) w j (t_emptied e) = absurd (not_emptied c array e p)
one_tree {c} {array} (t_settled p s) w j (t_settled p' s') = (ap found (settled_once c array p p' s s'), refl)
one_tree {c} {array} (t_settled p s) w j (t_left p' q t o) = absurd (not_settled c array p p' s q)
one_tree {c} {array} (t_settled p s) w j (t_right p' q t u) = absurd (not_settled c array p p' s q)
one_tree (t_left p q t o) w j other = elim (branched other p q) [
  | inl l ↦ let i = one_tree t w l.count l.first in (i.0, omega (arith, i.1, l.is))
  | inr l ↦ absurd (not_over o (sym (one_tree t refuted l.count l.first).0))
]
one_tree (t_right p q t u) w j other = elim (branched other p q) [
  | inl l ↦ absurd (not_over l.over (one_tree t w l.count l.first).0)
  | inr l ↦
      let i = one_tree t refuted l.count l.first in
      let h = one_tree u w l.more l.second in
      (h.0, omega (arith, i.1, l.is, h.1))
]

pub one_result : PlainHasOneResult
one_result c array v w n k p q =
    let r = tree p in
    let o = tree q in
    let e = one_tree r.2 w o.0 o.2 in
    (e.0, omega (arith, e.1, r.1, o.1))
