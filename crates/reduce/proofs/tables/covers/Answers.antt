use Rattle.std.proofs.Common.{ℕ, ◌^◌, ◌<◌, length, get_or, take, arith, rules}
use Rattle.std.proofs.lemmas.List.{length-map}
use Rattle.std.proofs.lemmas.Bool.{false≢true}
use Rattle.std.proofs.lemmas.Bool.Decides.{Decides-eqb}
use Rattle.propagate.specs.Sets.{placed}
use Rattle.propagate.specs.Steps.{table_from}
use Rattle.propagate.proofs.Books.{table_at, table_at_lem, table_valid, readable_at, scope_under}
use Rattle.reduce.proofs.Combinations.{decides_universal, never_universal}
use Rattle.reduce.proofs.tables.covers.Goals as goal

pub support-found-requires : goal.support-found-requires
support-found-requires c = readable_at c.args.book.now c.args.table.now c.requires _ _ c.own_scope-scope.ensures c.rows_of-rows.ensures

pub combinations-all-requires : goal.combinations-all-requires
combinations-all-requires c =
    record {
      few = (readable_at c.args.book.now c.args.table.now c.requires _ _ c.own_scope-scope.ensures c.rows_of-rows.ensures).few;
      known = scope_under c.args.book.now c.args.table.now c.requires _ c.own_scope-scope.ensures 24 (omega arith);
    }

pub returns-then-all-rows : goal.returns-then-all-rows
returns-then-all-rows c =
    let b = c.args.book.now in
    let t = c.args.table.now in
    let small : (x : ℕ) → get_or c.args.sets.now x 0 < 2 ^ 32 = λ x. omega (arith, c.fits-sets x) in
    let scope = c.own_scope-scope.result.now in
    let rows = c.rows_of-rows.result.now in (
      λ e. absurd (false≢true e),
      λ u. absurd (never_universal 32 (placed c.args.sets.now) small (table_at b t) (table_valid b t c.requires).apart
          (table_from scope rows) (table_at_lem b t c.requires scope rows c.own_scope-scope.ensures c.rows_of-rows.ensures)
          (length rows) c.combinations-all.result (length-map rows (take (length scope))) c.combinations-all.ensures (omega arith) u),
    )

pub returns : goal.returns
returns c =
    let b = c.args.book.now in
    let t = c.args.table.now in
    let small : (x : ℕ) → get_or c.args.sets.now x 0 < 2 ^ 32 = λ x. omega (arith, c.fits-sets x) in
    decides_universal 32 (placed c.args.sets.now) small (table_at b t) (table_valid b t c.requires).apart
    (table_from c.own_scope-scope.result.now c.rows_of-rows.result.now) (table_at_lem b t c.requires _ _ c.own_scope-scope.ensures c.rows_of-rows.ensures)
    c.support-found.result.live c.combinations-all.result c.support-found.ensures.count c.combinations-all.ensures _ (search (rules, Decides-eqb))
