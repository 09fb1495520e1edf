-- The trials that are open above the one at hand, as the two stacks hold them.
use Rattle.std.specs.Prelude.{ℕ, ◌+◌, ◌<◌, ◌≤◌, Bool, true, false, List, [], ◌∷◌, length, sum, Option}
use Rattle.grammar.specs.Contents.{Contents}
use Rattle.store.specs.Meaning.{Meaning}
use Rattle.trail.specs.declared.kinds.Branch.{Branch}
use Rattle.trail.specs.declared.kinds.Saved.{Saved}
use Rattle.trail.specs.declared.kinds.Side.{Side}
use Rattle.trail.specs.declared.kinds.Side.TheVariants.{Left, Right}
use Rattle.trail.specs.Trails.{undoing, since, until, total, Known}
use Rattle.trials.specs.Picks.{Picked}
use Rattle.trials.specs.Trials.{Verdict, refuted, Over, Trial, cut_from}
use Rattle.branching.specs.Looks.{Notes}

-- an open trial: its propagated sets and its pick, by which of its two trials is being made
pub data Frame : Type 0 where
  on_left : List ℕ → ℕ → ℕ → Frame
  on_right : List ℕ → ℕ → ℕ → Frame

abbrev pub framed : List ℕ → ℕ → ℕ → Side → Frame
framed b o v Left = on_left b o v
framed b o v Right = on_right b o v

-- the branch x of an open trial with the sets b
abbrev pub frame : List ℕ → Branch → Frame
frame b x = framed b x.option x.value x.side

-- The open trials, the last first: the sets of each are what undoing gives up to its branch's mark.
abbrev pub frames : List Branch → List Saved → List ℕ → List Frame
frames [] ts b = []
frames (x ∷ xs) ts b = frame (undoing (since x.mark ts) b) x ∷ frames xs (until x.mark ts) (undoing (since x.mark ts) b)

-- Each save took a value at least: the saves and the values that are left are no more than the sizes together.
abbrev pub Spare : Contents → List Saved → List ℕ → Type 0
Spare c ts b = total (length c.sizes) b + length ts ≤ sum c.sizes

-- each branch has its mark within the saves, and its option and value are the pick of what is there once they are undone
abbrev pub Nested : Contents → List Branch → List Saved → List ℕ → Type 0
Nested c [] ts b = Unit {0}
Nested c (x ∷ xs) ts b =
    (x.mark < length ts) × Picked c (undoing (since x.mark ts) b) x.option x.value
    × Spare c (until x.mark ts) (undoing (since x.mark ts) b) × Nested c xs (until x.mark ts) (undoing (since x.mark ts) b)

-- two stacks and sets that go together
pub record Paired (c : Contents) (xs : List Branch) (ts : List Saved) (b : List ℕ) : Type 0 where
  pub known : Known ts
  pub spare : Spare c ts b
  pub nested : Nested c xs ts b

-- how a trial ends: its verdict, and the store and the number of trials then
pub record End (S : Type 0) : Type 0 where
  pub verdict : Verdict
  pub store : S
  pub count : ℕ

abbrev pub ends : {S : Type 0} → Verdict → S → ℕ → End S
ends v s n = record { verdict = v; store = s; count = n }

-- the trial on an array ends so
abbrev pub Tried : (c : Contents) (S : Type 0) (m : Meaning S) → Option ℕ → List ℕ → S → ℕ → End S → Type 0
Tried c S m budget array s n e = Trial c S m budget array s n e.verdict e.store e.count

-- From a trial that ended as r, below these frames, the whole ends as w.
pub data Up (c : Contents) (S : Type 0) (m : Meaning S) (budget : Option ℕ) : List Frame → End S → End S → Type 0 where
  top : {r : End S} → Up c S m budget [] r r
  over : {f : Frame} {fs : List Frame} {r w : End S} → Over r.verdict → Up c S m budget fs r w → Up c S m budget (f ∷ fs) r w
  turn : {b : List ℕ} {o v n : ℕ} {s : S} {fs : List Frame} {q w : End S} → Tried c S m budget (cut_from b o v) s n q → Up c S m budget (on_right b o v ∷ fs) q w
      → Up c S m budget (on_left b o v ∷ fs) (ends refuted s n) w
  close : {b : List ℕ} {o v n : ℕ} {s t : S} {fs : List Frame} {w : End S} → Notes c m b s t → Up c S m budget fs (ends refuted t n) w
      → Up c S m budget (on_right b o v ∷ fs) (ends refuted s n) w

-- Whatever the trial on b yields, the open frames turn it into an end of the whole.
abbrev pub Leads : (c : Contents) (S : Type 0) (m : Meaning S) (budget : Option ℕ) → List Frame → List ℕ → S → ℕ → (End S → Type 0) → Type 0
Leads c S m budget fs b s n W = (r w : End S) → Tried c S m budget b s n r → Up c S m budget fs r w → W w

-- From a refuted trial under the frames fs: to a trial due under gs, or to the end.
abbrev pub Climbed : (c : Contents) (S : Type 0) (m : Meaning S) → Bool → List Frame → S → List Frame → List ℕ → S → Type 0
Climbed c S m true fs s gs b t = (budget : Option ℕ) (n : ℕ) → Leads c S m budget gs b t n (λ w. Up c S m budget fs (ends refuted s n) w)
Climbed c S m false fs s gs b t = (budget : Option ℕ) (n : ℕ) → Up c S m budget fs (ends refuted s n) (ends refuted t n)
