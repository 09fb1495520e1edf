-- Saves made and undone, under the frames.
use Rattle.std.proofs.Common.{◌≡◌, ℕ, ◌+◌, ◌-◌, ◌<◌, ◌≤◌, List, [], ◌∷◌, length, get_or, set, sum, sym, refl, ap, ◌∙◌, subst, ap₂, add-one, arith}
use lib.Count.{ones}
use Rattle.std.proofs.lemmas.List.{length-drop}
use Rattle.std.proofs.ByRecursion.{All-drop}
use Rattle.grammar.specs.Contents.{Contents}
use Rattle.trials.specs.Picks.{Picked}
use Rattle.trail.specs.declared.kinds.Branch.{Branch}
use Rattle.trail.specs.declared.kinds.Saved.{Saved}
use Rattle.trail.specs.Trails.{saved, undoing, since, until, total, Saves, none, more, Closed}
use Rattle.trail.proofs.Undone.{undoing_saved, since_none, until_none, until_cons, total_set}
use Rattle.branching.specs.Frames.{frame, frames, Spare, Nested, Paired}

-- the same frames, by other saves and other sets
pub record Same (c : Contents) (xs : List Branch) (ts : List Saved) (b : List ℕ) (us : List Saved) (d : List ℕ) : Type 0 where
  pub frames : frames xs us d ≡ frames xs ts b
  pub paired : Paired c xs us d

module _ (c : Contents) (few : length c.sizes ≤ 24) where
  -- one save more
  same_one : (b : List ℕ) (o y : ℕ) (ts : List Saved) → o < length c.sizes → o < length b → ones y < ones (get_or b o 0) → (xs : List Branch) → Paired c xs ts b → Same c xs ts b (saved b o ∷ ts) (set b o y)
  same_one b o y ts k l f [] p = record { frames = refl; paired = record { known = (omega arith, p.known); spare = omega (arith, total_set (length c.sizes) b o y k l f, p.spare); nested = tt } }
  same_one b o y ts k l f (x ∷ xs) p =
      let n = p.nested in
      let h : x.mark ≤ length ts = omega (arith, n.0) in
      let e = undoing_saved x.mark b o y ts h in
      let u = until_cons x.mark (saved b o) ts h in
      record {
        frames = ap₂ (λ (d : List ℕ) (us : List Saved). frame d x ∷ frames xs us d) e u;
        paired = record {
          known = (omega arith, p.known);
          spare = omega (arith, total_set (length c.sizes) b o y k l f, p.spare);
          nested = (omega (arith, n.0), subst (λ d. Picked c d x.option x.value) (sym e) n.1, rw (e, u) n.2, rw (e, u) n.3);
        };
      }

  -- some saves more
  pub same_saves : {b : List ℕ} {ts : List Saved} {d : List ℕ} {us : List Saved} → Saves (length c.sizes) b ts d us → (xs : List Branch) → Paired c xs ts b → Same c xs ts b us d
  same_saves none xs p = record { frames = refl; paired = p }
  same_saves (more {d} {us} o y s k l f) xs p =
      let i = same_saves s xs p in
      let j = same_one d o y us k l f xs i.paired in
      record { frames = j.frames ∙ i.frames; paired = j.paired }

  -- a branch marked before its save
  module _ (b : List ℕ) (y : ℕ) (x : Branch) (xs : List Branch) (ts : List Saved) (marked : x.mark ≡ length ts) where
    back : undoing (since x.mark (saved b x.option ∷ ts)) (set b x.option y) ≡ b
    back = undoing_saved x.mark b x.option y ts (omega arith) ∙ ap (λ ss. undoing ss b) (since_none x.mark ts (omega arith))

    kept : until x.mark (saved b x.option ∷ ts) ≡ ts
    kept = until_cons x.mark (saved b x.option) ts (omega arith) ∙ until_none x.mark ts (omega arith)

    opened : frames (x ∷ xs) (saved b x.option ∷ ts) (set b x.option y) ≡ frame b x ∷ frames xs ts b
    opened = ap₂ (λ (d : List ℕ) (us : List Saved). frame d x ∷ frames xs us d) back kept

    paired : x.option < length b → ones y < ones (get_or b x.option 0) → Picked c b x.option x.value → Paired c xs ts b → Paired c (x ∷ xs) (saved b x.option ∷ ts) (set b x.option y)
    paired l f p q = record {
      known = (omega (arith, p.known), q.known);
      spare = omega (arith, total_set (length c.sizes) b x.option y p.known l f, q.spare);
      nested = (omega arith, subst (λ d. Picked c d x.option x.value) (sym back) p, rw (back, kept) q.spare, rw (back, kept) q.nested);
    }

    -- the same, of stacks that came to be so
    pub opened_as : (bs : List Branch) (ss : List Saved) (d : List ℕ) → bs ≡ x ∷ xs → ss ≡ saved b x.option ∷ ts → d ≡ set b x.option y → frames bs ss d ≡ frame b x ∷ frames xs ts b
    opened_as bs ss d e f h = rw (e, f, h) opened

    pub paired_as : (bs : List Branch) (ss : List Saved) (d : List ℕ) → bs ≡ x ∷ xs → ss ≡ saved b x.option ∷ ts → d ≡ set b x.option y → x.option < length b → ones y < ones (get_or b x.option 0)
        → Picked c b x.option x.value → Paired c xs ts b → Paired c bs ss d
    paired_as bs ss d e f h w k p q = rw (e, f, h) (paired w k p q)

    -- there is room for one save more
    pub room_for : x.option < length b → ones y < ones (get_or b x.option 0) → Picked c b x.option x.value → Spare c ts b → length ts < sum c.sizes
    room_for l f p s = omega (arith, total_set (length c.sizes) b x.option y p.known l f, s)

-- no more branches than saves
pub nested_length : (c : Contents) (xs : List Branch) (ts : List Saved) (b : List ℕ) → Nested c xs ts b → length xs ≤ length ts
nested_length c [] ts b n = omega arith
nested_length c (x ∷ xs) ts b n =
    let i = nested_length c xs (until x.mark ts) (undoing (since x.mark ts) b) n.3 in
    omega (arith, i, n.0, length-drop (length ts - x.mark) ts)

-- What is known once the last branch is closed.
pub record Shut (c : Contents) (xs : List Branch) (ts : List Saved) (b : List ℕ) (x : Branch) (ys : List Branch) (us : List Saved) (d : List ℕ) : Type 0 where
  pub frames : frames xs ts b ≡ frame d x ∷ frames ys us d
  pub paired : Paired c ys us d
  pub picked : Picked c d x.option x.value
  pub fewer : length xs ≡ length ys + 1
  pub saves : length us < length ts

shut_here : (c : Contents) (x : Branch) (xs : List Branch) (ts : List Saved) (b : List ℕ) → Paired c (x ∷ xs) ts b → Shut c (x ∷ xs) ts b x xs (until x.mark ts) (undoing (since x.mark ts) b)
shut_here c x xs ts b p = record {
  frames = refl;
  paired = record { known = All-drop (λ (t : Saved). t.option < 24) (length ts - x.mark) ts p.known; spare = p.nested.2; nested = p.nested.3 };
  picked = p.nested.1;
  fewer = sym (add-one (length xs));
  saves = omega (arith, length-drop (length ts - x.mark) ts, p.nested.0);
}

pub shut : (c : Contents) (x : Branch) (xs ys : List Branch) (ts us : List Saved) (b d : List ℕ) → Closed x xs ts b ys us d → Paired c xs ts b → Shut c xs ts b x ys us d
shut c x xs ys ts us b d k p = rw (k.branches, k.trail, k.sets) (shut_here c x ys ts b (rw k.branches at p))

-- two stacks that hold nothing
pub paired_none : (c : Contents) (xs : List Branch) (ts : List Saved) (b : List ℕ) → xs ≡ [] → ts ≡ [] → total (length c.sizes) b ≤ sum c.sizes → Paired c xs ts b
paired_none c xs ts b e f h = rw (e, f) (record { known = tt; spare = omega arith; nested = tt })

pub frames_none : (xs : List Branch) (ts : List Saved) (b : List ℕ) → xs ≡ [] → frames xs ts b ≡ []
frames_none xs ts b e = rw e refl
