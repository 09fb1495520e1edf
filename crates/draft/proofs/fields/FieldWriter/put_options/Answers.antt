use Rattle.std.proofs.Common.{◌≡◌, ℕ, ◌+◌, ◌<◌, List, [], ◌∷◌, length, get_or, drop, refl, ◌∙◌, arith}
use Rattle.std.proofs.lemmas.List.{at_drop_more, at_drop_all}
use Rattle.book_fields.specs.declared.field.Field.{Field}
use Rattle.draft.specs.Entries.{option_fields}
use Rattle.draft.proofs.Dues.{kept_on, due_ready, due_more, due_all}
use Rattle.draft.proofs.fields.FieldWriter.put_options.Goals as goal

split : (sizes lengths : List ℕ) (i : ℕ) → i < length sizes → i < length lengths
    → option_fields i (drop i sizes) (drop i lengths) ≡ (Field.Size i, get_or sizes i 0) ∷ (Field.NameLength i, get_or lengths i 0) ∷ option_fields (i + 1) (drop (i + 1) sizes) (drop (i + 1) lengths)
split sizes lengths i h k = at_drop_more (λ l. option_fields i l (drop i lengths)) sizes i 0 h ∙ at_drop_more (λ l. option_fields i (get_or sizes i 0 ∷ drop (i + 1) sizes) l) lengths i 0 k

pub put-requires : goal.put-requires
put-requires c =
    let i = c.loop-i.i in
    due_ready _ _ _ _ _ _ ((Field.Size i, get_or c.args.sizes.now i 0) ∷ []) _ c.loop-i.invariant.due (split c.args.sizes.now c.args.lengths.now i c.loop-i-test.true (omega (arith, c.requires.even)))

pub put-requires-in-loop-i : goal.put-requires-in-loop-i
put-requires-in-loop-i c =
    let i = c.loop-i.i in
    let first = due_more _ _ _ _ _ _ ((Field.Size i, get_or c.args.sizes.now i 0) ∷ []) _ c.loop-i.invariant.due (split c.args.sizes.now c.args.lengths.now i c.loop-i-test.true (omega (arith, c.requires.even))) _ _ c.put.ensures.kept.long c.put.ensures.wrote in
    due_ready _ _ _ _ _ _ ((Field.NameLength i, get_or c.args.lengths.now i 0) ∷ []) (option_fields (i + 1) (drop (i + 1) c.args.sizes.now) (drop (i + 1) c.args.lengths.now)) first refl

pub loop-i-preserved : goal.loop-i-preserved
loop-i-preserved c =
    let i = c.loop-i.i in
    let first = due_more _ _ _ _ _ _ ((Field.Size i, get_or c.args.sizes.now i 0) ∷ []) _ c.loop-i.invariant.due (split c.args.sizes.now c.args.lengths.now i c.loop-i-test.true (omega (arith, c.requires.even))) _ _ c.put.ensures.kept.long c.put.ensures.wrote in
    record { due = due_more _ _ _ _ _ _ ((Field.NameLength i, get_or c.args.lengths.now i 0) ∷ []) (option_fields (i + 1) (drop (i + 1) c.args.sizes.now) (drop (i + 1) c.args.lengths.now)) first refl _ _ c.put-in-loop-i.ensures.kept.long c.put-in-loop-i.ensures.wrote; kept = kept_on _ _ _ c.put-in-loop-i.ensures.kept (kept_on _ _ _ c.put.ensures.kept c.loop-i.invariant.kept) }

pub returns-clause-wrote : goal.returns-clause-wrote
returns-clause-wrote c =
    due_all _ _ _ _ _ _ c.loop-i.invariant.due (at_drop_all (λ l. option_fields c.loop-i.i l (drop c.loop-i.i c.args.lengths.now)) c.args.sizes.now c.loop-i.i c.loop-i-test.false)
