-- The steps of the search, on derivations.
use Rattle.std.proofs.Common.{◌≡◌, ℕ, ◌+◌, true, false, List, [], ◌∷◌, Option, sym, refl, ap, ◌∙◌, subst}
use Rattle.grammar.specs.Contents.{Contents}
use Rattle.boxes.specs.declared.ValueBox.{ValueBox}
use Rattle.reduce.proofs.Changes.{one_box}
use Rattle.store.specs.Meaning.{Meaning, Told}
use Rattle.trail.specs.declared.kinds.Branch.{Branch}
use Rattle.trail.specs.declared.kinds.Side.TheVariants.{Left, Right}
use Rattle.trials.specs.Trials.{Verdict, refuted, Over, Unspent, Boxed, Branches, emptied, seen, left, right, both, cut_to, cut_from}
use Rattle.branching.specs.Looks.{AtOnce, no_value, seen_box, Notes}
use Rattle.branching.specs.Frames.{Frame, on_left, on_right, framed, frame, End, ends, Tried, Up, top, over, turn, close, Leads, Climbed}

-- an array has one box
same_box : (c : Contents) (array : List ℕ) (a b : ValueBox) → Boxed c array a → Boxed c array b → a ≡ b
same_box c array a b p q = ap (λ (sets : List ℕ). record { sets = sets }) (one_box c array a.sets b.sets (p.long ∙ sym q.long) p.box q.box)

module _ (c : Contents) (S : Type 0) (m : Meaning S) where
  -- the box that is told is the one that was looked for
  told_that : {array : List ℕ} {s t : S} (b : ValueBox) → Boxed c array b → Notes c m array s t → Told m s b t
  told_that {array} {s} {t} b p n = subst (λ x. Told m s x t) (same_box c array n.0 b n.1 p) n.2

  module _ (budget : Option ℕ) where
    -- what is over is over for the whole
    up_over : (fs : List Frame) (r : End S) → Over r.verdict → Up c S m budget fs r r
    up_over [] r h = top
    up_over (f ∷ fs) r h = over h (up_over fs r h)

    -- with nothing open
    up_none : {r w : End S} → Up c S m budget [] r w → r ≡ w
    up_none top = refl

    -- under a branch, the left trial first
    into_left : {array next : List ℕ} {s t : S} {n o v : ℕ} {b : ValueBox} {fs : List Frame} {W : End S → Type 0} → Unspent budget n → Branches c m array s next b o v t
        → Leads c S m budget fs array s n W → Leads c S m budget (on_left next o v ∷ fs) (cut_to next o v) t (n + 1) W
    into_left h p k r w d (over z u) = k r w (left h p d z) u
    into_left h p k r w d (turn q (over z u)) = k _ w (right h p d q z) u
    into_left {b = b} h p k r w d (turn q (close t u)) = k _ w (both h p d q (told_that b p.boxed t)) u

    -- a trial that is refuted at once
    pub refuted_at_once : {array : List ℕ} {s t : S} {n : ℕ} → Unspent budget n → AtOnce c m array s t → Tried c S m budget array s n (ends refuted t (n + 1))
    refuted_at_once h (no_value e) = emptied h e
    refuted_at_once h (seen_box nar pic box has look) = seen h nar pic box has look

-- What the frames gs with the store t turn a refuted trial into, the frames fs with the store s do too.
pub record Climbing (c : Contents) (S : Type 0) (m : Meaning S) (fs : List Frame) (s : S) (gs : List Frame) (t : S) : Type 0 where
  pub rise : (budget : Option ℕ) (n : ℕ) (w : End S) → Up c S m budget gs (ends refuted t n) w → Up c S m budget fs (ends refuted s n) w

pub climbing_start : (c : Contents) (S : Type 0) (m : Meaning S) (fs : List Frame) (s : S) → Climbing c S m fs s fs s
climbing_start c S m fs s = record { rise = λ budget n w u. u }

frame_right : (d : List ℕ) (x : Branch) → x.side ≡ Right → frame d x ≡ on_right d x.option x.value
frame_right d x e = ap (framed d x.option x.value) e

frame_left : (d : List ℕ) (x : Branch) → x.side ≡ Left → frame d x ≡ on_left d x.option x.value
frame_left d x e = ap (framed d x.option x.value) e

module _ (c : Contents) (S : Type 0) (m : Meaning S) (fs : List Frame) (s : S) (gs : List Frame) (t : S) (k : Climbing c S m fs s gs t) where
  -- a branch whose two trials are refuted: the store is told
  pub climbing_close : (d : List ℕ) (x : Branch) (hs : List Frame) (u : S) → gs ≡ frame d x ∷ hs → x.side ≡ Right → Notes c m d t u → Climbing c S m fs s hs u
  climbing_close d x hs u e way z = record {
    rise = λ budget n w up. k.rise budget n w (rw (e, frame_right d x way) (close z up));
  }

  -- a branch whose left trial is refuted: its right trial is due
  pub climbing_turn : (d : List ℕ) (x : Branch) (hs ks : List Frame) (b : List ℕ) → gs ≡ frame d x ∷ hs → x.side ≡ Left → ks ≡ on_right d x.option x.value ∷ hs → b ≡ cut_from d x.option x.value
      → Climbed c S m true fs s ks b t
  climbing_turn d x hs ks b e way f l =
      λ budget n r w node up. k.rise budget n w (rw (e, frame_left d x way) (turn (rw l at node) (rw f at up)))

  -- no branch is left
  pub climbing_done : (hs : List Frame) (b : List ℕ) → gs ≡ [] → Climbed c S m false fs s hs b t
  climbing_done hs b e = λ budget n. k.rise budget n (ends refuted t n) (rw e top)

module _ (c : Contents) (S : Type 0) (m : Meaning S) (budget : Option ℕ) (fs : List Frame) (b : List ℕ) (s : S) (n : ℕ) where
  -- at the start nothing is open
  pub leads_start : (W : End S → Type 0) → fs ≡ [] → ((w : End S) → Tried c S m budget b s n w → W w) → Leads c S m budget fs b s n W
  leads_start W e h r w d u = subst W (up_none c S m budget (rw e at u)) (h r d)

  module _ (W : End S → Type 0) (k : Leads c S m budget fs b s n W) where
    -- the trial ends the whole
    pub leads_over : (v : Verdict) (j : ℕ) → Over v → Tried c S m budget b s n (ends v s j) → W (ends v s j)
    leads_over v j z d = k (ends v s j) (ends v s j) d (up_over c S m budget fs (ends v s j) z)

    -- the trial is refuted, and another is due
    pub leads_on : (j : ℕ) (gs : List Frame) (d : List ℕ) (t u : S) → Tried c S m budget b s n (ends refuted t j) → Climbed c S m true fs t gs d u → Leads c S m budget gs d u j W
    leads_on j gs d t u p q r w x y = k (ends refuted t j) w p (q budget j r w x y)

    -- or none is
    pub leads_out : (j : ℕ) (gs : List Frame) (d : List ℕ) (t u : S) → Tried c S m budget b s n (ends refuted t j) → Climbed c S m false fs t gs d u → W (ends refuted u j)
    leads_out j gs d t u p q = k (ends refuted t j) (ends refuted u j) p (q budget j)

    -- the left trial is due
    pub leads_left : (next : List ℕ) (x : ValueBox) (o v : ℕ) (gs : List Frame) (d : List ℕ) (t : S) → Unspent budget n → Branches c m b s next x o v t → gs ≡ on_left next o v ∷ fs → d ≡ cut_to next o v → Leads c S m budget gs d t (n + 1) W
    leads_left next x o v gs d t h p f l r w q u = into_left c S m budget h p k r w (rw l at q) (rw f at u)
