-- The worked cases of propagation and of rows.
use Rattle.std.proofs.Common.{◌≡◌, ℕ, zero, suc, ◌<◌, ◌⊎◌, List, [], ◌∷◌, length, get_or, Some, Ok, sym, refl, ap, subst, inl, inr, arith, lit<}
use Rattle.std.specs.List.{AllByRecursion}
use Rattle.std.proofs.lemmas.Bool.{le-leb}
use Rattle.questions.specs.declared.question.Question.{Question}
use Rattle.bits.specs.Bits.{bits}
use Rattle.grammar.specs.Contents.{Table, Contents, ValidTable, Valid, Listed}
use Rattle.book_source.specs.Readings.{ask}
use Rattle.book_fields.specs.declared.field.Field.{Field}
use Rattle.draft.specs.Encoding.{spelt}
use Rattle.propagate.specs.Propagation.{LeavesNone}
use Rattle.propagate.specs.Sets.{sets_of}
use Rattle.propagate.specs.Support.{Live, Upheld, Allows}
use Rattle.store.specs.Blank.{blank}
use Rattle.store.specs.Meaning.{Meaning}
use Rattle.store.specs.Ring.{ring}
use Rattle.store.specs.Slots.{slotted}
use Rattle.store.specs.declared.blank.BlankStore.{BlankStore}
use Rattle.store.specs.declared.ring.RingStore.{RingStore}
use Rattle.store.specs.declared.slots.SlotStore.{SlotStore}
use Rattle.trials.specs.Trials.{Verdict, refuted, Asks, spent, emptied, settled, seen, left, right, both}
use Rattle.trials.proofs.PlainTrees.{not_emptied}
use Rattle.worked_theorem.specs.Yields.{Yields}
use Rattle.worked_theorem.specs.Books.{array_of, sample, clash, five, rowless, AreBooks}
use Rattle.worked_theorem.specs.Boxing.{fixed, narrowed, last_three, SameBox}
use Rattle.worked_theorem.specs.Filing.{Filed}
use Rattle.worked_theorem.specs.Propagating.{Propagates}
use Rattle.worked_theorem.specs.Rows.{three_sets, on_three, TwoOfFour, NoneAtOnce, NoRows}
use Rattle.worked_theorem.proofs.ValidTests.{is_valid_so}
use Rattle.worked_theorem.proofs.Pruning.{empties_so, narrowed_so}
use Rattle.worked_theorem.proofs.Boxing.{is_box_so}
use Rattle.worked_theorem.proofs.Tests.{unspent}

pub books : AreBooks
books = record { of_sample = is_valid_so sample refl; of_clash = is_valid_so clash refl; of_five = is_valid_so five refl; of_rowless = is_valid_so rowless refl }

pub propagates : Propagates
propagates = record {
  gate_cut = (narrowed_so sample 3 2 (array_of (4 ∷ 3 ∷ 3 ∷ [])) (array_of (4 ∷ 2 ∷ 2 ∷ [])) refl).propagated;
  stand_cut_too = (empties_so sample 3 2 1 (array_of (4 ∷ 3 ∷ 1 ∷ [])) refl, refl);
}

-- ---- five options

pub same_box : SameBox
same_box = record {
  one_way = (narrowed_so five 4 1 (fixed 1 2) (narrowed 1 2) refl).propagated;
  one_box = is_box_so five (narrowed 1 2) last_three refl;
  other_way = (narrowed_so five 4 1 (fixed 2 1) (narrowed 2 1) refl).propagated;
  other_box = is_box_so five (narrowed 2 1) last_three refl;
}

-- ---- the file

pub filed : Filed
unfolding spelt bits
filed = record {
  order = refl;
  field_bits = refl;
  filling_bits = refl;
  name_bytes = refl;
  name_bits = refl;
  joined_bits = refl;
  length_is = refl;
  bytes_are = refl;
  read = λ room h. ap (λ b. ask {X = Contents} b Question.Room 0 Field.Whole (Ok sample)) (le-leb 7 room h);
}

-- ---- two of four

abbrev low : List ℕ
low = 0 ∷ 0 ∷ 0 ∷ []

abbrev high : List ℕ
high = 0 ∷ 1 ∷ 1 ∷ []

abbrev missing : List ℕ
missing = 0 ∷ 0 ∷ 1 ∷ []

neither : (missing ≡ low) ⊎ (missing ≡ high) → ⊥
neither (inl e) = let z : ◌≡◌ {A = ℕ} 0 1 = ap (λ row. get_or row 2 0) (sym e) in omega arith
neither (inr e) = let z : ◌≡◌ {A = ℕ} 0 1 = ap (λ row. get_or row 1 0) e in omega arith

one_of : (row : List ℕ) → Listed (low ∷ high ∷ []) row → (row ≡ low) ⊎ (row ≡ high)
one_of row (zero, l, e) = inl (sym e)
one_of row (suc zero, l, e) = inr (sym e)
one_of row (suc (suc i), l, e) = absurd (omega arith)

pub two_of_four : TwoOfFour
two_of_four = record {
  just_two = λ row. (
    (λ (at, alive). one_of row at),
    (λ which. elim which [
      | inl e ↦ subst (λ row. Allows (on_three (low ∷ high ∷ [])) row × Live three_sets (0 ∷ 1 ∷ 2 ∷ []) row) (sym e) ((0, omega arith, refl), (refl, (refl, (refl, tt))))
      | inr e ↦ subst (λ row. Allows (on_three (low ∷ high ∷ [])) row × Live three_sets (0 ∷ 1 ∷ 2 ∷ []) row) (sym e) ((1, omega arith, refl), (refl, (refl, (refl, tt))))
    ]),
  );
  not_universal = λ rows live all. neither ((live missing).0 (all missing (refl, (refl, (refl, tt))), (refl, (refl, (refl, tt)))));
}

-- ---- no row

no_support : (t : Table) → t.rows ≡ [] → (row : List ℕ) → Listed t.rows row → ⊥
no_support t e row (i, l, at) = omega (arith, ap length e)

module _ (c : Contents) (ok : Valid c) (t : Table) (one : c.tables ≡ t ∷ []) (bare : t.rows ≡ []) (array : List ℕ) where
  valid : ValidTable c.sizes t
  valid = (subst (AllByRecursion (ValidTable c.sizes)) one ok.tables).0

  first : 0 < length t.scope
  first = omega (arith, valid.some)

  none_left : LeavesNone c (sets_of c array)
  none_left = (
    get_or t.scope 0 0,
    valid.known 0 first,
    λ other inside closed v h. let up : Upheld t other = (subst (AllByRecursion (λ t. Upheld t other)) one closed).0 in let row = up 0 v first h in no_support t bare row.0 row.1,
  )

-- where an option has no value left, an ask with a budget ends in one way
only_none : {c : Contents} {S : Type 0} {m : Meaning S} {budget : ℕ} {array : List ℕ} {s u : S} {w : Verdict} {k : ℕ} → 0 < budget → LeavesNone c (sets_of c array)
    → Asks c S m (Some budget) array s w u k → (refuted ≡ w) × (◌≡◌ {A = ℕ} 1 k)
only_none some e (spent z) = absurd (omega arith)
only_none some e (emptied f d) = (refl, refl)
only_none {c} {array = array} some e (settled f p one) = absurd (not_emptied c array e p)
only_none {c} {array = array} some e (seen f p q b h l) = absurd (not_emptied c array e p)
only_none {c} {array = array} some e (left f br one over) = absurd (not_emptied c array e br.narrows)
only_none {c} {array = array} some e (right f br one two over) = absurd (not_emptied c array e br.narrows)
only_none {c} {array = array} some e (both f br one two told) = absurd (not_emptied c array e br.narrows)

at_once : (c : Contents) (S : Type 0) (m : Meaning S) (budget : ℕ) (array : List ℕ) (s : S) → 0 < budget → LeavesNone c (sets_of c array) → Yields c S m budget array s refuted s 1
at_once c S m budget array s some e = record { run = emptied (unspent budget 0 some) e; only = λ w u k other. only_none some e other }

none_at_once : (S : Type 0) (m : Meaning S) → NoneAtOnce S m
none_at_once S m c ok t one bare array s budget some = at_once c S m budget array s some (none_left c ok t one bare array)

pub no_rows : NoRows
no_rows = record {
  here = at_once rowless BlankStore blank 1 (array_of (3 ∷ [])) (record {}) (lit< tt) (empties_so rowless 2 1 0 (array_of (3 ∷ [])) refl);
  with_blank = none_at_once BlankStore blank;
  with_ring = none_at_once RingStore ring;
  with_slots = none_at_once SlotStore slotted;
}
