-- A test for what holds of every book.
use Rattle.std.proofs.Common.{◌≡◌, ℕ, ◌<◌, ◌≤◌, Bool, true, not, ◌&&◌, eqb, ltb, leb, List, [], ◌∷◌, map, length, get_or, sum}
use Rattle.std.specs.List.{AllByRecursion}
use Rattle.std.proofs.lemmas.Bool.{and_parts, leb-true, eqb-true}
use Rattle.std.proofs.lemmas.Bool.Decides.{Decides-eqb, Decides-ltb, Decides-and, Decides-not}
use Rattle.grammar.specs.Contents.{Table, Contents, ValidTable, Valid}
use Rattle.worked_theorem.proofs.Tests.{decides_leb, below, below_decides, every, every_decides, same_row, same_row_decides}

module _ (sizes : List ℕ) (t : Table) where
  abbrev is_known : ℕ → Bool
  is_known j = ltb (get_or t.scope j 0) (length sizes)

  abbrev is_above : ℕ → ℕ → Bool
  is_above j i = ltb (get_or t.scope i 0) (get_or t.scope j 0)

  abbrev is_long : ℕ → Bool
  is_long r = eqb (length (get_or t.rows r [])) (length t.scope)

  abbrev is_value : ℕ → ℕ → Bool
  is_value r j = ltb (get_or (get_or t.rows r []) j 0) (get_or sizes (get_or t.scope j 0) 0)

  abbrev is_apart : ℕ → ℕ → Bool
  is_apart r q = not (same_row (get_or t.rows q []) (get_or t.rows r []))

abbrev pub headed : List ℕ → Table → Bool
headed sizes t =
    leb 1 (length t.scope) && (leb (length t.scope) 4 && (below (length t.scope) (is_known sizes t) && below (length t.scope) (λ j. below j (is_above sizes t j))))

abbrev pub filled_in : List ℕ → Table → Bool
filled_in sizes t =
    below (length t.rows) (is_long sizes t)
    && (below (length t.rows) (λ r. below (length t.scope) (is_value sizes t r)) && (below (length t.rows) (λ r. below r (is_apart sizes t r)) && leb (length t.rows) 1024))

abbrev pub is_valid_table : List ℕ → Table → Bool
is_valid_table sizes t = headed sizes t && filled_in sizes t

valid_table : (sizes : List ℕ) (t : Table) → is_valid_table sizes t ≡ true → ValidTable sizes t
valid_table sizes t e =
    let (f, g) = and_parts (headed sizes t) _ e in
    let (a, f1) = and_parts (leb 1 (length t.scope)) _ f in
    let (b, f2) = and_parts (leb (length t.scope) 4) _ f1 in
    let (k, o) = and_parts (below (length t.scope) (is_known sizes t)) _ f2 in
    let (l, g1) = and_parts (below (length t.rows) (is_long sizes t)) _ g in
    let (v, g2) = and_parts (below (length t.rows) (λ r. below (length t.scope) (is_value sizes t r))) _ g1 in
    let (d, s) = and_parts (below (length t.rows) (λ r. below r (is_apart sizes t r))) _ g2 in
    let known = (below_decides (is_known sizes t) (λ j. get_or t.scope j 0 < length sizes) (λ j. Decides-ltb (get_or t.scope j 0) (length sizes)) (length t.scope)).0 k in
    let rising = (below_decides (λ j. below j (is_above sizes t j)) (λ j. (i : ℕ) → i < j → get_or t.scope i 0 < get_or t.scope j 0)
    (λ j. below_decides (is_above sizes t j) (λ i. get_or t.scope i 0 < get_or t.scope j 0) (λ i. Decides-ltb (get_or t.scope i 0) (get_or t.scope j 0)) j)
    (length t.scope)).0 o in
    let long = (below_decides (is_long sizes t) (λ r. length (get_or t.rows r []) ≡ length t.scope) (λ r. Decides-eqb (length (get_or t.rows r [])) (length t.scope)) (length t.rows)).0 l in
    let values = (below_decides (λ r. below (length t.scope) (is_value sizes t r)) (λ r. (j : ℕ) → j < length t.scope → get_or (get_or t.rows r []) j 0 < get_or sizes (get_or t.scope j 0) 0)
    (λ r. below_decides (is_value sizes t r) (λ j. get_or (get_or t.rows r []) j 0 < get_or sizes (get_or t.scope j 0) 0) (λ j. Decides-ltb (get_or (get_or t.rows r []) j 0) (get_or sizes (get_or t.scope j 0) 0)) (length t.scope))
    (length t.rows)).0 v in
    let apart = (below_decides (λ r. below r (is_apart sizes t r)) (λ r. (q : ℕ) → q < r → get_or t.rows q [] ≡ get_or t.rows r [] → ⊥)
    (λ r. below_decides (is_apart sizes t r) (λ q. get_or t.rows q [] ≡ get_or t.rows r [] → ⊥) (λ q. Decides-not (same_row (get_or t.rows q []) (get_or t.rows r [])) (same_row_decides (get_or t.rows q []) (get_or t.rows r []))) r)
    (length t.rows)).0 d in
    record {
      some = leb-true 1 (length t.scope) a;
      few = leb-true (length t.scope) 4 b;
      known = known;
      rising = λ i j l h. rising j h i l;
      long = long;
      values = λ r j l h. values r l j h;
      apart = λ q r l h. apart r h q l;
      short = leb-true (length t.rows) 1024 s;
    }

valid_tables : (sizes : List ℕ) (ts : List Table) → every (is_valid_table sizes) ts ≡ true → AllByRecursion (ValidTable sizes) ts
valid_tables sizes [] e = tt
valid_tables sizes (t ∷ ts) e = let (p, q) = and_parts (is_valid_table sizes t) _ e in (valid_table sizes t p, valid_tables sizes ts q)

abbrev pub is_size : ℕ → Bool
is_size s = leb 1 s && leb s 32

abbrev pub counted : Contents → Bool
counted c = leb 1 (length c.sizes) && (leb (length c.sizes) 24 && (eqb (length c.names) (length c.sizes) && every is_size c.sizes))

abbrev pub tabled : Contents → Bool
tabled c = leb (length c.tables) 48 && (every (is_valid_table c.sizes) c.tables && leb (sum (map (λ t. length t.rows) c.tables)) 8192)

abbrev pub is_valid : Contents → Bool
is_valid c = counted c && tabled c

pub is_valid_so : (c : Contents) → is_valid c ≡ true → Valid c
is_valid_so c e =
    let (f, g) = and_parts (counted c) _ e in
    let (a, f1) = and_parts (leb 1 (length c.sizes)) _ f in
    let (b, f2) = and_parts (leb (length c.sizes) 24) _ f1 in
    let (n, s) = and_parts (eqb (length c.names) (length c.sizes)) _ f2 in
    let (t, g1) = and_parts (leb (length c.tables) 48) _ g in
    let (v, r) = and_parts (every (is_valid_table c.sizes) c.tables) _ g1 in
    record {
      some = leb-true 1 (length c.sizes) a;
      few = leb-true (length c.sizes) 24 b;
      named = eqb-true (length c.names) (length c.sizes) n;
      sized = (every_decides is_size (λ s. (1 ≤ s) × (s ≤ 32)) (λ s. Decides-and (leb 1 s) (leb s 32) (decides_leb 1 s) (decides_leb s 32)) c.sizes).0 s;
      tabled = leb-true (length c.tables) 48 t;
      tables = valid_tables c.sizes c.tables v;
      short = leb-true (sum (map (λ t. length t.rows) c.tables)) 8192 r;
    }
