use Rattle.std.proofs.Common.{[], ◌∷◌, ◌++◌, map, get_or, take, sym, subst, arith}
use Rattle.std.proofs.lemmas.List.{map_more}
use Rattle.std.proofs.lemmas.Bool.Decides.{not_from_Decides}
use Rattle.propagate.specs.Sets.{placed}
use Rattle.propagate.specs.Support.{Mentions}
use Rattle.propagate.proofs.Books.{table_at, blank, one_of, scope_under}
use Rattle.reduce.specs.Steps.{Marks, Binds}
use Rattle.reduce.proofs.Bindings.{binds_known, binds_universal, binds_marked}
use Rattle.reduce.proofs.boxing.bound_options.Goals as goal
use Rattle.reduce.proofs.boxing.bound_options.Goals.{then-adds+then-not-covers, else-adds, else-adds-via-then-adds+else-not-covers, else-adds-via-else-adds}

pub adds-requires : goal.adds-requires
adds-requires c =
    let b = c.args.book.now in
    scope_under b _ (one_of b c.tables-tables.result.now c.loop-table.table-index c.tables-tables.ensures c.loop-table-test.true) _ c.own_scope-scope.ensures 32 (omega arith)

pub mark-bound-requires : goal.mark-bound-requires
mark-bound-requires c =
    let b = c.args.book.now in
    scope_under b _ (one_of b c.tables-tables.result.now c.loop-table.table-index c.tables-tables.ensures c.loop-table-test.true) _ c.own_scope-scope.ensures 32 (omega arith)

pub loop-table-preserved : goal.loop-table-preserved
loop-table-preserved c =
    let b = c.args.book.now in
    let sets = placed c.args.sets.now in
    let tables = c.tables-tables.result.now in
    let i = c.loop-table.table-index in
    let t = get_or tables i blank in
    let done = map (table_at b) (take i tables) in
    let scope-is = c.own_scope-scope.ensures in
    subst (λ ts. Binds sets ts c.if-adds.bound) (sym (map_more (table_at b) tables i blank c.loop-table-test.true))
    (elim c.if-adds.branch [
      | then-adds+then-not-covers w ↦
          binds_marked sets done (table_at b t) c.loop-table.bound c.loop-table.invariant
          (not_from_Decides w.covers.result w.covers.ensures w.if-not-covers.true) c.if-adds.bound
          (subst (λ n. Marks c.loop-table.bound (table_at b t).scope n) (sym w.bound-is) (subst (λ s. Marks c.loop-table.bound s w.mark-bound.result) scope-is w.mark-bound.ensures))
      | else-adds w ↦
          subst (Binds sets (done ++ table_at b t ∷ [])) (sym w.bound-is)
          (elim w.else-adds.branch [
            | else-adds-via-then-adds+else-not-covers w' ↦ binds_universal sets done (table_at b t) c.loop-table.bound c.loop-table.invariant (w'.covers.ensures.0 w'.if-not-covers.false)
            | else-adds-via-else-adds w' ↦
                binds_known sets done (table_at b t) c.loop-table.bound c.loop-table.invariant
                (λ h. not_from_Decides c.adds.result c.adds.ensures w'.if-adds.false (h.0, subst (λ s. Mentions s h.0) (sym scope-is) h.1, h.2))
          ])
    ])
