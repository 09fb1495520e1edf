-- The layers of a book, by the fields that each asks for.
use Rattle.std.proofs.Common.{◌≡◌, ℕ, zero, suc, ◌+◌, ◌-◌, ◌%◌, ◌<◌, ◌≤◌, List, [], ◌∷◌, ◌++◌, map, length, get_or, take, drop, Some, None, Ok, sum, Option, sym, refl, ap, ◌∙◌, subst, append_assoc, append-nil, arith, length-drop, pow_pos}
use Rattle.std.specs.List.{flat_map, AllByRecursion}
use Rattle.std.proofs.lemmas.List.{take-append-drop, nil_from_length, length-map}
use Rattle.std.proofs.lemmas.List.Sums.{sum_by-cons}
use Rattle.questions.specs.declared.question.Question.{Question}
use Rattle.book_fields.specs.declared.field.Field.{Field}
use Rattle.grammar.specs.Contents.{Table, Contents}
use Rattle.grammar.specs.Layout.{cut}
use Rattle.book_source.specs.Readings.{Source, ask, and_then, next, give, within, each}
use Rattle.grammar.specs.Grammar.{shape, shapes, member, scope, value, values, rises, row, rows, row_limit_of, heading, table, tables, letter, letters, counts, tail, book}
use Rattle.book_source.proofs.Inversion.{ok_so, ask_so, then_so, next_so, within_so, each_so}
use Rattle.grammar.proofs.Cuts.{cut_lengths}
use Rattle.grammar.proofs.ValidBooks.{book_valid}
use Rattle.draft.specs.Entries.{Entry, numbered, option_fields, row_fields, table_fields, tables_fields, count_fields, tail_fields, fields}
use Rattle.draft.specs.Encoding.{Fit}
use Rattle.draft.proofs.Said.{Said, said_as, said_next, said_last, said_within, said_each, Whole, whole_as, whole_next, whole_last, whole_end}

module _ (s : Source) where
  shape_said : (i at : ℕ) (o : ℕ × ℕ) (end : ℕ) → shape s i at ≡ Ok (o, end) → Said s (λ s. shape s i) ((Field.Size i, o.0) ∷ (Field.NameLength i, o.1) ∷ []) o at end
  shape_said i at o end e =
      next_so (within s (Field.Size i) 1 33) _ at e (λ size a was e.
      next_so (within s (Field.NameLength i) 1 17) _ a e (λ long b was' last.
      let p : ((size, long), b) ≡ (o, end) = ok_so last in
      subst (λ (q : (ℕ × ℕ) × ℕ). Said s (λ s. shape s i) ((Field.Size i, q.0.0) ∷ (Field.NameLength i, q.0.1) ∷ []) q.0 at q.1) p
      (said_next s (λ s. within s (Field.Size i) 1 33) (λ s size. next (within s (Field.NameLength i) 1 17) (λ long. give (size, long))) size (size, long) ((Field.Size i, size) ∷ []) ((Field.NameLength i, long) ∷ []) at a b
      (said_within s (Field.Size i) 1 33 at size a was (λ l h _. (l, omega arith)))
      (said_last s (λ s. within s (Field.NameLength i) 1 17) (λ long. (size, long)) long ((Field.NameLength i, long) ∷ []) a b
      (said_within s (Field.NameLength i) 1 17 a long b was' (λ l h _. (omega arith, omega arith)))))))

  shapes_said : (n at : ℕ) (os : List ℕ × List ℕ) (end : ℕ) → shapes s n at ≡ Ok (os, end) → Said s (λ s. shapes s n) (option_fields 0 os.0 os.1) os at end
  shapes_said n at os end e =
      next_so (each (shape s) (λ i _. i + 1) 0 n) _ at e (λ ps a was last.
      let split : List (ℕ × ℕ) → List ℕ × List ℕ = λ os. (map (λ o. o.0) os, map (λ o. o.1) os) in
      let p : (split ps, a) ≡ (os, end) = ok_so last in
      subst (λ (q : (List ℕ × List ℕ) × ℕ). Said s (λ s. shapes s n) (option_fields 0 q.0.0 q.0.1) q.0 at q.1) p
      (said_last s (λ s. each (shape s) (λ i _. i + 1) 0 n) split ps (option_fields 0 (map (λ o. o.0) ps) (map (λ o. o.1) ps)) at a
      (said_each s shape (λ i _. i + 1) (λ i o. (Field.Size i, o.0) ∷ (Field.NameLength i, o.1) ∷ []) (λ i os. option_fields i (map (λ o. o.0) os) (map (λ o. o.1) os))
      (λ _. refl) (λ _ _ _. refl) shape_said n 0 at ps a was)))

  scope_said : (t options : ℕ) → options ≤ 24 → (n at : ℕ) (xs : List ℕ) (end : ℕ) → scope s t options n at ≡ Ok (xs, end) → Said s (λ s. scope s t options n) (numbered (Field.ScopeOption t) 0 xs) xs at end
  scope_said t options few n at xs end e =
      said_each s (λ s. member s t options) (λ c x. (c.0 + 1, x + 1)) (λ c x. (Field.ScopeOption t c.0, x) ∷ []) (λ c xs. numbered (Field.ScopeOption t) c.0 xs) (λ _. refl) (λ _ _ _. refl)
      (λ c at x end e. said_within s (Field.ScopeOption t c.0) c.1 options at x end e (λ l h _. (omega arith, omega arith))) n (0, 0) at xs end e

  module _ (sizes : List ℕ) (small : (x : ℕ) → get_or sizes x 0 ≤ 32) where
    values_said : (t r : ℕ) (scope : List ℕ) (at : ℕ) (vs : List ℕ) (end : ℕ) → values s t r sizes scope at ≡ Ok (vs, end) → Said s (λ s. values s t r sizes scope) (numbered (Field.Value t r) 0 vs) vs at end
    values_said t r scope at vs end e =
        said_each s (λ s. value s t r sizes scope) (λ j _. j + 1) (λ j v. (Field.Value t r j, v) ∷ []) (λ j vs. numbered (Field.Value t r) j vs) (λ _. refl) (λ _ _ _. refl)
        (λ j at v end e. said_within s (Field.Value t r j) 0 (get_or sizes (get_or scope j 0) 0) at v end e (λ l h _. (omega arith, omega (arith, small (get_or scope j 0))))) (length scope) 0 at vs end e

    row_said : (t : ℕ) (scope : List ℕ) (c : ℕ × Option (List ℕ)) (at : ℕ) (x : List ℕ) (end : ℕ) → row s t sizes scope c at ≡ Ok (x, end) → Said s (λ s. row s t sizes scope c) (numbered (Field.Value t c.0) 0 x) x at end
    row_said t scope c at x end e =
        then_so (values s t c.0 sizes scope at) _ e (λ p was rest.
        ask_so (rises c.1 p.0) Question.RowValue at (Field.Row t c.0) (Ok p) rest (λ up same.
        let said = values_said t c.0 scope at p.0 p.1 was in
        subst (λ (q : List ℕ × ℕ). Said s (λ s. row s t sizes scope c) (numbered (Field.Value t c.0) 0 q.0) q.0 at q.1) (ok_so same)
        (record {
          answers = said.answers;
          fit = said.fit;
          again = λ s a b h. ap (λ r. and_then r (λ p. ask (rises c.1 p.0) Question.RowValue a (Field.Row t c.0) (Ok p))) (said.again s a b h)
              ∙ ap (λ u. ask u Question.RowValue a (Field.Row t c.0) (Ok (p.0, b))) up;
        })))

    rows_said : (t first : ℕ) (scope : List ℕ) (n at : ℕ) (rs : List (List ℕ)) (end : ℕ) → rows s t first sizes scope n at ≡ Ok (rs, end) → Said s (λ s. rows s t first sizes scope n) (row_fields t first rs) rs at end
    rows_said t first scope n at rs end e =
        said_each s (λ s. row s t sizes scope) (λ c x. (c.0 + 1, Some x)) (λ c x. numbered (Field.Value t c.0) 0 x) (λ c rs. row_fields t c.0 rs) (λ _. refl) (λ _ _ _. refl)
        (row_said t scope) n (first, None) at rs end e

  head_fields : ℕ → List ℕ → ℕ → List Entry
  head_fields t xs n = (Field.Kind t, 0) ∷ (Field.ScopeLength t, length xs) ∷ (numbered (Field.ScopeOption t) 0 xs ++ (Field.RowCount t, n) ∷ [])

  heading_said : (options t first : ℕ) → options ≤ 24 → (at : ℕ) (h : List ℕ × ℕ) (end : ℕ) → heading s options t first at ≡ Ok (h, end) → Said s (λ s. heading s options t first) (head_fields t h.0 h.1) h at end
  unfolding head_fields
  heading_said options t first few at h end e =
      next_so (within s (Field.Kind t) 0 1) _ at e (λ v a was-v e.
      next_so (within s (Field.ScopeLength t) 1 5) _ a e (λ k b was-k e.
      next_so (scope s t options k) _ b e (λ xs d was-xs e.
      next_so (within s (Field.RowCount t) 0 (row_limit_of first + 1)) _ d e (λ n f was-n last.
      within_so s (Field.Kind t) 0 1 at v a was-v (λ _ _ v_high.
      let v-is : v ≡ 0 = omega arith in
      let long = (each_so (member s t options) (λ c x. (c.0 + 1, x + 1)) (λ _ _. Unit {0}) (λ _ _ _ _ _. tt) k (0, 0) b xs d was-xs).0 in
      let scoped = numbered (Field.ScopeOption t) 0 xs in
      let count : List Entry = (Field.RowCount t, n) ∷ [] in
      subst (λ (q : (List ℕ × ℕ) × ℕ). Said s (λ s. heading s options t first) (head_fields t q.0.0 q.0.1) q.0 at q.1) (ok_so last)
      (said_as s (λ s. heading s options t first) (xs, n) at f (λ i. (Field.Kind t, v-is i) ∷ (Field.ScopeLength t, sym long i) ∷ (scoped ++ count))
      (said_next s (λ s. within s (Field.Kind t) 0 1) (λ s _. next (within s (Field.ScopeLength t) 1 5) (λ k. next (scope s t options k) (λ xs. next (within s (Field.RowCount t) 0 (row_limit_of first + 1)) (λ n. give (xs, n)))))
      v (xs, n) ((Field.Kind t, v) ∷ []) ((Field.ScopeLength t, k) ∷ (scoped ++ count)) at a f (said_within s (Field.Kind t) 0 1 at v a was-v (λ l h _. (omega arith, omega arith)))
      (said_next s (λ s. within s (Field.ScopeLength t) 1 5) (λ s k. next (scope s t options k) (λ xs. next (within s (Field.RowCount t) 0 (row_limit_of first + 1)) (λ n. give (xs, n))))
      k (xs, n) ((Field.ScopeLength t, k) ∷ []) (scoped ++ count) a b f (said_within s (Field.ScopeLength t) 1 5 a k b was-k (λ l h _. (omega arith, omega arith)))
      (said_next s (λ s. scope s t options k) (λ s xs. next (within s (Field.RowCount t) 0 (row_limit_of first + 1)) (λ n. give (xs, n))) xs (xs, n) scoped count b d f (scope_said t options few k b xs d was-xs)
      (said_last s (λ s. within s (Field.RowCount t) 0 (row_limit_of first + 1)) (λ n. (xs, n)) n count d f
      (said_within s (Field.RowCount t) 0 (row_limit_of first + 1) d n f was-n (λ l h _. (omega arith, omega arith)))))))))))))

  table_said : (sizes : List ℕ) → length sizes ≤ 24 → ((x : ℕ) → get_or sizes x 0 ≤ 32) → (c : ℕ × ℕ) (at : ℕ) (t : Table) (end : ℕ) → table s sizes c at ≡ Ok (t, end) → Said s (λ s. table s sizes c) (table_fields c.0 c.1 t) t at end
  unfolding head_fields
  table_said sizes few small c at t end e =
      next_so (heading s (length sizes) c.0 c.1) _ at e (λ h a was e.
      next_so (rows s c.0 c.1 sizes h.0 h.1) _ a e (λ rs b was-rows last.
      let long = (each_so (row s c.0 sizes h.0) (λ c x. (c.0 + 1, Some x)) (λ _ _. Unit {0}) (λ _ _ _ _ _. tt) h.1 (c.1, None) a rs b was-rows).0 in
      let scoped = numbered (Field.ScopeOption c.0) 0 h.0 in
      let made : List (List ℕ) → Table = λ rs. record { scope = h.0; rows = rs } in
      let listed = row_fields c.0 c.1 rs in
      subst (λ (q : Table × ℕ). Said s (λ s. table s sizes c) (table_fields c.0 c.1 q.0) q.0 at q.1) (ok_so last)
      (said_as s (λ s. table s sizes c) (made rs) at b (λ i. (Field.Kind c.0, 0) ∷ (Field.ScopeLength c.0, length h.0) ∷ (append_assoc scoped ((Field.RowCount c.0, h.1) ∷ []) listed
      ∙ (λ i. scoped ++ (Field.RowCount c.0, sym long i) ∷ listed)) i)
      (said_next s (λ s. heading s (length sizes) c.0 c.1) (λ s h. next (rows s c.0 c.1 sizes h.0 h.1) (λ rs. give (record { scope = h.0; rows = rs }))) h (made rs) (head_fields c.0 h.0 h.1) listed at a b
      (heading_said (length sizes) c.0 c.1 few at h a was)
      (said_last s (λ s. rows s c.0 c.1 sizes h.0 h.1) made rs listed a b (rows_said sizes small c.0 c.1 h.0 h.1 a rs b was-rows))))))

  tables_said : (sizes : List ℕ) → length sizes ≤ 24 → ((x : ℕ) → get_or sizes x 0 ≤ 32) → (n at : ℕ) (ts : List Table) (end : ℕ) → tables s sizes n at ≡ Ok (ts, end) → Said s (λ s. tables s sizes n) (tables_fields 0 0 ts) ts at end
  tables_said sizes few small n at ts end e =
      said_each s (λ s. table s sizes) (λ c t. (c.0 + 1, c.1 + length t.rows)) (λ c t. table_fields c.0 c.1 t) (λ c ts. tables_fields c.0 c.1 ts) (λ _. refl) (λ _ _ _. refl)
      (table_said sizes few small) n (0, 0) at ts end e

  letters_said : (n at : ℕ) (ls : List ℕ) (end : ℕ) → letters s n at ≡ Ok (ls, end) → Said s (λ s. letters s n) (numbered Field.NameByte 0 ls) ls at end
  letters_said n at ls end e =
      said_each s letter (λ k _. k + 1) (λ k b. (Field.NameByte k, b) ∷ []) (λ k ls. numbered Field.NameByte k ls) (λ _. refl) (λ _ _ _. refl)
      (λ k at b end e. said_within s (Field.NameByte k) 0x21 0x7f at b end e (λ l h _. (omega arith, omega arith))) n 0 at ls end e

  counts_said : (at : ℕ) (c : ℕ × ℕ) (end : ℕ) → counts s at ≡ Ok (c, end) → Said s counts (count_fields c.0 c.1) c at end
  counts_said at c end e =
      next_so (within s Field.Edition 1 2) _ at e (λ v a was-v e.
      next_so (within s Field.Options 1 25) _ a e (λ n b was-n e.
      next_so (within s Field.Tables 0 49) _ b e (λ m d was-m last.
      within_so s Field.Edition 1 2 at v a was-v (λ _ v_low v_high.
      let v-is : v ≡ 1 = omega arith in
      subst (λ (q : (ℕ × ℕ) × ℕ). Said s counts (count_fields q.0.0 q.0.1) q.0 at q.1) (ok_so last)
      (said_as s counts (n, m) at d (λ i. (Field.Edition, v-is i) ∷ (Field.Options, n) ∷ (Field.Tables, m) ∷ [])
      (said_next s (λ s. within s Field.Edition 1 2) (λ s _. next (within s Field.Options 1 25) (λ n. next (within s Field.Tables 0 49) (λ m. give (n, m)))) v (n, m) ((Field.Edition, v) ∷ []) ((Field.Options, n) ∷ (Field.Tables, m) ∷ []) at a d
      (said_within s Field.Edition 1 2 at v a was-v (λ l h _. (omega arith, omega arith)))
      (said_next s (λ s. within s Field.Options 1 25) (λ s n. next (within s Field.Tables 0 49) (λ m. give (n, m))) n (n, m) ((Field.Options, n) ∷ []) ((Field.Tables, m) ∷ []) a b d
      (said_within s Field.Options 1 25 a n b was-n (λ l h _. (omega arith, omega arith)))
      (said_last s (λ s. within s Field.Tables 0 49) (λ m. (n, m)) m ((Field.Tables, m) ∷ []) b d
      (said_within s Field.Tables 0 49 b m d was-m (λ l h _. (omega arith, omega arith)))))))))))

  filling_fits : (v : ℕ) → v < 1 → Fit (Field.Filling, v)
  filling_fits v h at = let none : v ≡ 0 = omega arith in (omega arith, let p = pow_pos ((8 - at % 8) % 8) in omega (arith, p))

  tail_whole : (n at : ℕ) (ls : List ℕ) (end : ℕ) → tail s n at ≡ Ok (ls, end) → Whole s (λ s. tail s n) (tail_fields ls) ls at end
  tail_whole n at ls end e =
      next_so (within s Field.Filling 0 1) _ at e (λ v a was-v e.
      next_so (letters s n) _ a e (λ xs b was-xs e.
      next_so (within s Field.End 0 1) _ b e (λ w d was-w last.
      within_so s Field.Filling 0 1 at v a was-v (λ _ _ v_high.
      let v-is : v ≡ 0 = omega arith in
      let bytes = numbered Field.NameByte 0 xs in
      subst (λ (q : List ℕ × ℕ). Whole s (λ s. tail s n) (tail_fields q.0) q.0 at q.1) (ok_so last)
      (whole_as s (λ s. tail s n) xs at d (λ i. (Field.Filling, v-is i) ∷ append-nil bytes i)
      (whole_next s (λ s. within s Field.Filling 0 1) (λ s _. next (letters s n) (λ ls. next (within s Field.End 0 1) (λ _. give ls))) v xs ((Field.Filling, v) ∷ []) (bytes ++ []) at a d
      (said_within s Field.Filling 0 1 at v a was-v (λ _ h. filling_fits v h))
      (whole_next s (λ s. letters s n) (λ s ls. next (within s Field.End 0 1) (λ _. give ls)) xs xs bytes [] a b d (letters_said n a xs b was-xs)
      (whole_end s xs b w d was-w))))))))

-- names that are cut from all their bytes are those bytes
pub joined_cut : (ls ns : List ℕ) → length ls ≡ sum ns → flat_map (λ n. n) (cut ls ns) ≡ ls
joined_cut ls [] h = sym (nil_from_length ls h)
joined_cut ls (n ∷ ns) h =
    let total = sum_by-cons (λ x. x) n ns in
    ap (λ l. take n ls ++ l) (joined_cut (drop n ls) ns (simp length-drop (omega arith))) ∙ take-append-drop n ls

small_at : (sizes : List ℕ) → AllByRecursion (λ s. (1 ≤ s) × (s ≤ 32)) sizes → (x : ℕ) → get_or sizes x 0 ≤ 32
small_at [] a x = omega arith
small_at (s ∷ sizes) a zero = a.0.1
small_at (s ∷ sizes) a (suc x) = small_at sizes a.1 x

tail_length : (s : Source) (n at : ℕ) (ls : List ℕ) (end : ℕ) → tail s n at ≡ Ok (ls, end) → length ls ≡ n
tail_length s n at ls end e =
    next_so (within s Field.Filling 0 1) _ at e (λ v a was-v e.
    next_so (letters s n) _ a e (λ xs b was-xs e.
    next_so (within s Field.End 0 1) _ b e (λ w d was-w last.
    ap length (sym (ap (λ q. q.0) (ok_so last))) ∙ (each_so (letter s) (λ k _. k + 1) (λ _ _. Unit {0}) (λ _ _ _ _ _. tt) n 0 a xs b was-xs).0)))

shapes_length : (s : Source) (n at : ℕ) (os : List ℕ × List ℕ) (end : ℕ) → shapes s n at ≡ Ok (os, end) → n ≡ length os.0
shapes_length s n at os end e =
    next_so (each (shape s) (λ i _. i + 1) 0 n) _ at e (λ ps a was last.
    sym (ap (λ q. length q.0.0) (sym (ok_so last)) ∙ length-map ps (λ o. o.0) ∙ (each_so (shape s) (λ i _. i + 1) (λ _ _. Unit {0}) (λ _ _ _ _ _. tt) n 0 at ps a was).0))

pub book_whole : (s : Source) (at : ℕ) (c : Contents) (end : ℕ) → book s at ≡ Ok (c, end) → Whole s book (fields c) c at end
book_whole s at c end e =
    next_so (counts s) _ at e (λ k a was e'.
    next_so (shapes s k.0) _ a e' (λ os b was-os e'.
    next_so (tables s os.0 k.1) _ b e' (λ ts d was-ts e'.
    next_so (tail s (sum os.1)) _ d e' (λ ls f was-ls last.
    let made : List ℕ → Contents = λ ls. record { sizes = os.0; names = cut ls os.1; tables = ts } in
    let p : (made ls, f) ≡ (c, end) = ok_so last in
    let v = book_valid s at (made ls) f (e ∙ ap Ok (sym p)) in
    let told = tail_length s (sum os.1) d ls f was-ls in
    let n-is : k.0 ≡ length os.0 = shapes_length s k.0 a os b was-os in
    let m-is : k.1 ≡ length ts = sym (each_so (table s os.0) (λ c t. (c.0 + 1, c.1 + length t.rows)) (λ _ _. Unit {0}) (λ _ _ _ _ _. tt) k.1 (0, 0) b ts d was-ts).0 in
    let lengths : os.1 ≡ map length (cut ls os.1) = sym (cut_lengths ls os.1 (omega arith)) in
    let bytes : ls ≡ flat_map (λ n. n) (cut ls os.1) = sym (joined_cut ls os.1 told) in
    subst (λ (q : Contents × ℕ). Whole s book (fields q.0) q.0 at q.1) p
    (whole_as s book (made ls) at f (λ i. count_fields (n-is i) (m-is i) ++ (option_fields 0 os.0 (lengths i) ++ (tables_fields 0 0 ts ++ tail_fields (bytes i))))
    (whole_next s counts (λ s c. next (shapes s c.0) (λ os. next (tables s os.0 c.1) (λ ts. next (tail s (sum os.1)) (λ ls. give (record { sizes = os.0; names = cut ls os.1; tables = ts })))))
    k (made ls) (count_fields k.0 k.1) (option_fields 0 os.0 os.1 ++ (tables_fields 0 0 ts ++ tail_fields ls)) at a f (counts_said s at k a was)
    (whole_next s (λ s. shapes s k.0) (λ s os. next (tables s os.0 k.1) (λ ts. next (tail s (sum os.1)) (λ ls. give (record { sizes = os.0; names = cut ls os.1; tables = ts }))))
    os (made ls) (option_fields 0 os.0 os.1) (tables_fields 0 0 ts ++ tail_fields ls) a b f (shapes_said s k.0 a os b was-os)
    (whole_next s (λ s. tables s os.0 k.1) (λ s ts. next (tail s (sum os.1)) (λ ls. give (record { sizes = os.0; names = cut ls os.1; tables = ts })))
    ts (made ls) (tables_fields 0 0 ts) (tail_fields ls) b d f (tables_said s os.0 v.few (small_at os.0 v.sized) k.1 b ts d was-ts)
    (whole_last s (λ s. tail s (sum os.1)) made ls (tail_fields ls) d f (tail_whole s (sum os.1) d ls f was-ls))))))))))
