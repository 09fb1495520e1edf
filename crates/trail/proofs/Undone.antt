-- Saves made and undone.
use Rattle.std.proofs.Common.{◌≡◌, ℕ, zero, suc, ◌-◌, ◌<◌, ◌≤◌, List, [], ◌∷◌, length, get_or, take, drop, set, ap, ◌∙◌, arith}
use lib.Count.{ones}
use Rattle.std.proofs.lemmas.List.{set-set, set-get_or}
use Rattle.trail.specs.declared.kinds.Saved.{Saved}
use Rattle.trail.specs.Trails.{saved, undone, undoing, since, until, total}

-- a change undone
pub restored : (b : List ℕ) (o y : ℕ) → undone (set b o y) (saved b o) ≡ b
restored b o y = set-set b o y (get_or b o 0) ∙ set-get_or b o 0

one_more : (n m : ℕ) → m ≤ n → suc n - m ≡ suc (n - m)
one_more n m h = omega arith

pub since_cons : (m : ℕ) (t : Saved) (ts : List Saved) → m ≤ length ts → since m (t ∷ ts) ≡ t ∷ since m ts
since_cons m t ts h = ap (λ k. take k (t ∷ ts)) (one_more (length ts) m h)

pub until_cons : (m : ℕ) (t : Saved) (ts : List Saved) → m ≤ length ts → until m (t ∷ ts) ≡ until m ts
until_cons m t ts h = ap (λ k. drop k (t ∷ ts)) (one_more (length ts) m h)

pub since_none : (m : ℕ) (ts : List Saved) → length ts ≤ m → since m ts ≡ []
since_none m ts h = let e : length ts - m ≡ 0 = omega arith in ap (λ k. take k ts) e

pub until_none : (m : ℕ) (ts : List Saved) → length ts ≤ m → until m ts ≡ ts
until_none m ts h = let e : length ts - m ≡ 0 = omega arith in ap (λ k. drop k ts) e

-- one save more is undone first
pub undoing_saved : (m : ℕ) (b : List ℕ) (o y : ℕ) (ts : List Saved) → m ≤ length ts → undoing (since m (saved b o ∷ ts)) (set b o y) ≡ undoing (since m ts) b
undoing_saved m b o y ts h = ap (λ ss. undoing ss (set b o y)) (since_cons m (saved b o) ts h) ∙ ap (undoing (since m ts)) (restored b o y)

-- one save undone
module _ (m : ℕ) (t : Saved) (ts us : List Saved) (b : List ℕ) (e : us ≡ t ∷ ts) (h : m < length us) where
  low : m ≤ length ts
  low = omega (arith, ap length e)

  pub undone_one : undoing (since m us) b ≡ undoing (since m ts) (undone b t)
  undone_one = ap (λ ss. undoing (since m ss) b) e ∙ ap (λ ss. undoing ss b) (since_cons m t ts low)

  pub until_one : until m us ≡ until m ts
  until_one = ap (until m) e ∙ until_cons m t ts low

-- a set with fewer values
pub total_set : (n : ℕ) (b : List ℕ) (o y : ℕ) → o < n → o < length b → ones y < ones (get_or b o 0) → total n (set b o y) < total n b
total_set zero b o y l h k = absurd (omega arith)
total_set (suc n) [] o y l h k = absurd (omega arith)
total_set (suc n) (s ∷ b) zero y l h k = omega arith
total_set (suc n) (s ∷ b) (suc o) y l h k = omega (arith, total_set n b o y (omega arith) (omega arith) k)
