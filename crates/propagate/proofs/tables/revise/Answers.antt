use Rattle.std.proofs.Common.{◌≡◌, ℕ, ◌+◌, ◌<◌, List, length, get_or, sym, refl, ap, ◌∙◌, subst, subst₂, arith}
use lib.Bits.{bit_or}
use Rattle.std.proofs.lemmas.Nat.{one_shl}
use Rattle.book.specs.Books.{contents}
use Rattle.propagate.specs.Sets.{Sets, placed}
use Rattle.propagate.specs.Steps.{Collects, Revised, table_from}
use Rattle.propagate.proofs.Books.{rows_of, table_at_lem, readable_at, scope_known}
use Rattle.propagate.proofs.Cuts.{Cutting, cutting_same, cutting_cut, cutting_all}
use Rattle.propagate.proofs.tables.revise.Goals as goal
use Rattle.propagate.proofs.tables.revise.Goals.{then-new-old, else-new-old}

collected : (sets : Sets) (scope : List ℕ) (rows of : List (List ℕ)) (seen : List ℕ) → rows ≡ of → Collects sets (table_from scope rows) seen → Collects sets (table_from scope of) seen
collected sets scope rows of seen e = subst (λ rows. Collects sets (table_from scope rows) seen) e

pub support-found-requires : goal.support-found-requires
support-found-requires c = readable_at c.args.book.now c.args.table.now c.requires _ _ c.own_scope-scope.ensures c.rows_of.ensures

pub bounds-sets-x : goal.bounds-sets-x
bounds-sets-x c = (readable_at c.args.book.now c.args.table.now c.requires _ _ c.own_scope-scope.ensures c.rows_of.ensures).known c.loop-j.j c.loop-j-test.true

pub bounds-found-j : goal.bounds-found-j
bounds-found-j c = omega (arith, (readable_at c.args.book.now c.args.table.now c.requires _ _ c.own_scope-scope.ensures c.rows_of.ensures).few)

pub offset_bounds-found-j : goal.offset_bounds-found-j
offset_bounds-found-j c = omega (arith, (readable_at c.args.book.now c.args.table.now c.requires _ _ c.own_scope-scope.ensures c.rows_of.ensures).few)

pub loop-j-preserved : goal.loop-j-preserved
loop-j-preserved c =
    let n = length (contents c.args.book.now).sizes in
    let scope = c.own_scope-scope.result.now in
    let t = table_from scope (rows_of c.args.book.now c.args.table.now) in
    let seen = c.support-found.result.values in
    let before = c.args.sets.now in
    let j = c.loop-j.j in
    let here : j < length scope = c.loop-j-test.true in
    let known = scope_known c.args.book.now c.args.table.now c.requires scope c.own_scope-scope.ensures j here in
    let read = (readable_at c.args.book.now c.args.table.now c.requires scope _ c.own_scope-scope.ensures c.rows_of.ensures).known j here in
    elim c.if-new-old.branch [
      | then-new-old w ↦
          subst₂ (Cutting n t seen before (j + 1)) (sym w.sets-is) (ap (bit_or c.loop-j.changed) (sym (one_shl (get_or scope j 0) 32 (omega (arith, read)))) ∙ sym w.changed-is)
          (cutting_cut n t seen before j c.loop-j.sets c.loop-j.changed c.loop-j.invariant here (omega (arith, read)) known
          (collected (placed before) scope _ (rows_of c.args.book.now c.args.table.now) seen c.rows_of.ensures c.support-found.ensures.values) w.if-new-old.true)
      | else-new-old w ↦
          subst₂ (Cutting n t seen before (j + 1)) (sym w.sets-is) (sym w.changed-is)
          (cutting_same n t seen before j c.loop-j.sets c.loop-j.changed c.loop-j.invariant w.if-new-old.false)
    ]

pub returns : goal.returns
returns c =
    let n = length (contents c.args.book.now).sizes in
    let scope = c.own_scope-scope.result.now in
    let rows = rows_of c.args.book.now c.args.table.now in
    let seen = c.support-found.result.values in
    let before = c.args.sets.now in
    subst (λ t. Revised n t before c.loop-j.sets c.loop-j.changed)
    (table_at_lem c.args.book.now c.args.table.now c.requires scope rows c.own_scope-scope.ensures refl)
    (cutting_all n (table_from scope rows) seen before c.loop-j.j c.loop-j.sets c.loop-j.changed c.loop-j-test.false
    (collected (placed before) scope _ rows seen c.rows_of.ensures c.support-found.ensures.values) c.loop-j.invariant)
