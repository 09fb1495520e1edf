-- What becomes of the boxes that are held, from the exact change of a store.
use Rattle.std.proofs.Common.{◌≡◌, ℕ, ◌%◌, ◌<◌, ◌≤◌, List, ◌∷◌, length, get_or, take, set, replicate, Some, None, Option, sym, ap, ◌∙◌, subst, inl, inr, arith}
use Rattle.std.specs.List.{ContainsAt as Has}
use Rattle.std.proofs.lemmas.List.{length-set, length-replicate, get_or-replicate, get_or-set_same, get_or-set_other}
use Rattle.std.proofs.lemmas.Bool.{cases_eq}
use Rattle.std.proofs.lemmas.Nat.{mod_below}
use Rattle.boxes.specs.declared.ValueBox.{ValueBox}
use Rattle.store.specs.Holdings.{Nothing, Grown}
use Rattle.store.specs.Key.{key}
use Rattle.store.specs.declared.ring.RingStore.{RingStore}
use Rattle.store.specs.Ring.{recent, Put}
use Rattle.store.specs.Slots.{slot_of, Lies}
use Rattle.store.proofs.Members.{has_told}
use Rattle.store.proofs.Turns.{newest_told}

pub ring_told : (s t : RingStore) (b : ValueBox) → Put s b t → length s.places ≡ 64 → recent t ≡ take 64 (b ∷ recent s)
ring_told s t b p e = newest_told s.places s.next 64 s.full b t.places t.next t.full s.within e p.places p.next p.full

pub ring_grown : (s t : RingStore) (b : ValueBox) → recent t ≡ take 64 (b ∷ recent s) → Grown (Has (recent s)) b (Has (recent t))
ring_grown s t b e x h = has_told 64 b (recent s) x (subst (λ zs. Has zs x) e h)

pub slots_nothing : (ts : List (Option ValueBox)) (n : ℕ) → 1 ≤ n → ts ≡ replicate n None → Nothing (Lies ts)
slots_nothing ts n l e x h =
    let m : length ts ≡ n = ap length e ∙ length-replicate n None in
    let i : slot_of ts x < n = omega (arith, mod_below (key x.sets) (length ts) (omega arith)) in
    let v : get_or ts (slot_of ts x) None ≡ None = ap (λ zs. get_or zs (slot_of ts x) None) e ∙ get_or-replicate n (slot_of ts x) None None i in
    let z : ◌≡◌ {A = ℕ} 0 1 = cc in
    omega arith

pub slots_grown : (xs ts : List (Option ValueBox)) (b : ValueBox) → 1 ≤ length xs → ts ≡ set xs (slot_of xs b) (Some b) → Grown (Lies xs) b (Lies ts)
slots_grown xs ts b l e x h =
    let m : length ts ≡ length xs = ap length e ∙ length-set xs (slot_of xs b) (Some b) in
    let k : slot_of ts x ≡ slot_of xs x = ap (λ n. key x.sets % n) m in
    let i : slot_of xs b < length xs = mod_below (key b.sets) (length xs) (omega arith) in
    let v : get_or (set xs (slot_of xs b) (Some b)) (slot_of xs x) None ≡ Some x = cc in
    elim (cases_eq (slot_of xs x) (slot_of xs b)) [
      | inl q ↦ let w = get_or-set_same xs (slot_of xs b) (Some b) None i in inr (cc)
      | inr q ↦ inl (sym (get_or-set_other xs (slot_of xs b) (slot_of xs x) (Some b) None q) ∙ v)
    ]
