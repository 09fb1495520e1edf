-- Down into a branch: the propagated sets are taken over, and then the picked set is cut to the value.
use Rattle.std.proofs.Common.{◌≡◌, ℕ, ◌^◌, ◌<◌, ◌≤◌, List, ◌∷◌, length, get_or, set, sum, sym, refl, ap, ◌∙◌, subst, ap₂, arith}
use lib.Count.{ones}
use Rattle.grammar.specs.Contents.{Contents}
use Rattle.book.specs.Books.{contents}
use Rattle.book.specs.declared.book.Book.{Book}
use Rattle.values.specs.Members.{In}
use Rattle.values.proofs.Digits.{in_mod, in_lt}
use Rattle.propagate.specs.Propagation.{Propagated}
use Rattle.book.proofs.Sizes.{valid}
use Rattle.trials.specs.Picks.{Picked}
use Rattle.trail.specs.declared.kinds.Branch.{Branch}
use Rattle.trail.specs.declared.kinds.Saved.{Saved}
use Rattle.trail.specs.declared.kinds.Side.TheVariants.{Left}
use Rattle.trail.specs.Trails.{branch, saved, Saves}
use Rattle.branching.specs.Frames.{Frame, on_left, frames, Paired}
use Rattle.branching.proofs.Singles.{ones_of_one}
use Rattle.branching.proofs.Smalls.{small_next}
use Rattle.branching.proofs.Opened.{Same, same_saves, opened_as, paired_as, room_for, nested_length}

-- propagated sets lie inside those that they come from
pub inside_start : (c : Contents) (start end : List ℕ) → Propagated c start end → (x v : ℕ) → x < length c.sizes → In (get_or end x 0) v → In (get_or start x 0) v
inside_start c start end p x v l i = (in_mod (get_or start x 0) (get_or c.sizes x 0) v (p.largest.inside x v (subst (λ s. In s v) (p.exact x l) i))).0

-- a picked value is small
pub small_value : (b : Book) (start end : List ℕ) (o v : ℕ) → Propagated (contents b) start end → Picked (contents b) end o v → v < 32
small_value b start end o v p q = in_lt 32 (get_or end o 0) v (small_next b start end p o q.known) q.lowest.member

module _ (b : Book) (n : ℕ) (e : n ≡ length (contents b).sizes) (start next d : List ℕ) (ts us : List Saved) (s : Saves n start ts d us) (f : d ≡ next) (long : length next ≡ 24)
    (o v : ℕ) (picked : Picked (contents b) next o v) (xs : List Branch) (p : Paired (contents b) xs ts start) where
  few : length (contents b).sizes ≤ 24
  few = (valid b).few

  same : Same (contents b) xs ts start us d
  same = same_saves (contents b) few (subst (λ k. Saves k start ts d us) e s) xs p

  pick_there : Picked (contents b) d o v
  pick_there = subst (λ a. Picked (contents b) a o v) (sym f) picked

  within : o < length d
  within = omega (arith, ap length f, picked.known, few)

  less : ones (2 ^ v) < ones (get_or d o 0)
  less = omega (arith, ones_of_one v, pick_there.two)

  -- there is room for the branch and its save
  pub descent_room : (length us < sum (contents b).sizes) × (length xs < sum (contents b).sizes)
  descent_room =
      let x = branch o v Left (length us) in
      let r = room_for (contents b) few d (2 ^ v) x xs us refl within less pick_there same.paired.spare in
      (r, omega (arith, r, nested_length (contents b) xs us d same.paired.nested))

  module _ (zs ys : List Branch) (ws : List Saved) (a : List ℕ) (j : zs ≡ xs) (g : ys ≡ branch o v Left (length us) ∷ zs) (h : ws ≡ saved d o ∷ us) (k : a ≡ set d o (2 ^ v)) where
    opens : ys ≡ branch o v Left (length us) ∷ xs
    opens = g ∙ ap (λ bs. branch o v Left (length us) ∷ bs) j

    pub descent_frames : frames ys ws a ≡ on_left next o v ∷ frames xs ts start
    descent_frames =
        opened_as (contents b) few d (2 ^ v) (branch o v Left (length us)) xs us refl ys ws a opens h k
        ∙ ap₂ (λ (z : List ℕ) (fs : List Frame). on_left z o v ∷ fs) f same.frames

    pub descent_paired : Paired (contents b) ys ws a
    descent_paired = paired_as (contents b) few d (2 ^ v) (branch o v Left (length us)) xs us refl ys ws a opens h k within less pick_there same.paired
