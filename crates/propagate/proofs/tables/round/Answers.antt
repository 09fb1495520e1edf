use Rattle.std.proofs.Common.{◌<◌, [], ◌∷◌, ◌++◌, map, length, get_or, take, sym, subst, subst₂, arith}
use Rattle.std.proofs.lemmas.List.{map_more}
use Rattle.std.proofs.lemmas.Bool.Decides.{not_from_Decides}
use Rattle.book.specs.Books.{contents}
use Rattle.propagate.specs.Sets.{placed}
use Rattle.propagate.specs.Support.{Mentions, Upheld}
use Rattle.propagate.specs.Propagation.{Avoids}
use Rattle.propagate.proofs.Books.{table_at, blank, one_of, all_at, scope_known, scope_under}
use Rattle.propagate.proofs.Rounds.{Rounding, rounding_skip, cut_more, rounding_revise}
use Rattle.propagate.proofs.tables.round.Goals as goal
use Rattle.propagate.proofs.tables.round.Goals.{then-touches+else-starves, else-touches}

pub touches-requires : goal.touches-requires
touches-requires c =
    let b = c.args.book.now in
    scope_under b _ (one_of b c.tables-tables.result.now c.loop-table.table-index c.tables-tables.ensures c.loop-table-test.true) _ c.own_scope-scope.ensures 32 (omega arith)

pub revise-changed-requires : goal.revise-changed-requires
revise-changed-requires c = one_of c.args.book.now c.tables-tables.result.now c.loop-table.table-index c.tables-tables.ensures c.loop-table-test.true

pub starves-requires : goal.starves-requires
starves-requires c =
    let b = c.args.book.now in
    scope_under b _ (one_of b c.tables-tables.result.now c.loop-table.table-index c.tables-tables.ensures c.loop-table-test.true) _ c.own_scope-scope.ensures 24 (omega arith)

pub returns-then-starves : goal.returns-then-starves
returns-then-starves c =
    let b = c.args.book.now in
    let tables = c.tables-tables.result.now in
    let i = c.loop-table.table-index in
    let t = get_or tables i blank in
    let one = one_of b tables i c.tables-tables.ensures c.loop-table-test.true in
    let empty = c.starves.ensures.0 c.if-starves.true in
    let known = scope_known b t one _ c.own_scope-scope.ensures empty.1.0 empty.1.1 in
    record {
      cut = cut_more (contents b) c.args.sets.now _ c.loop-table.sets c.loop-table.changed c.loop-table.invariant (table_at b t) c.revise-changed.new.sets c.revise-changed.result c.revise-changed.ensures
          (λ sets. all_at (λ t. Upheld t sets) b tables i c.tables-tables.ensures c.loop-table-test.true);
      settled = λ some. absurd (omega (arith, some empty.0 (subst (λ x. x < length (contents b).sizes) empty.1.2 known), empty.2));
    }

pub loop-table-preserved : goal.loop-table-preserved
loop-table-preserved c =
    let b = c.args.book.now in
    let tables = c.tables-tables.result.now in
    let i = c.loop-table.table-index in
    let t = get_or tables i blank in
    let before = c.args.sets.now in
    let done = map (table_at b) (take i tables) in
    subst (λ ts. Rounding (contents b) before ts c.if-touches.sets c.if-touches.changed) (sym (map_more (table_at b) tables i blank c.loop-table-test.true))
    (elim c.if-touches.branch [
      | then-touches+else-starves w ↦
          subst₂ (Rounding (contents b) before (done ++ table_at b t ∷ [])) (sym w.sets-is) (sym w.changed-is)
          (rounding_revise (contents b) before done c.loop-table.sets c.loop-table.changed c.loop-table.invariant (table_at b t) w.revise-changed.new.sets w.revise-changed.result w.revise-changed.ensures
          (λ sets. all_at (λ t. Upheld t sets) b tables i c.tables-tables.ensures c.loop-table-test.true))
      | else-touches w ↦
          subst₂ (Rounding (contents b) before (done ++ table_at b t ∷ [])) (sym w.sets-is) (sym w.changed-is)
          (rounding_skip (contents b) before done c.loop-table.sets c.loop-table.changed c.loop-table.invariant (table_at b t) c.args.pending
          (all_at (λ t. Avoids t.scope c.args.pending → Upheld t (placed before)) b tables i c.tables-tables.ensures c.loop-table-test.true c.requires)
          (λ h. not_from_Decides c.touches.result c.touches.ensures w.if-touches.false (h.0, subst (λ s. Mentions s h.0) (sym c.own_scope-scope.ensures) h.1, h.2)))
    ])
