use Rattle.std.proofs.Common.{◌≡◌, ℕ, ◌<◌, [], length, get_or, sym, ap, ◌∙◌, subst, arith}
use Rattle.std.proofs.lemmas.List.{get_or-map, length-map}
use Rattle.std.proofs.lemmas.Bool.Decides.{Decides-like}
use Rattle.grammar.specs.Contents.{Table}
use Rattle.book.specs.Books.{contents, tables_at}
use Rattle.propagate.specs.Sets.{placed, sets_of}
use Rattle.propagate.proofs.Books.{table_at, blank, one_of, table_valid}
use Rattle.reduce.specs.Universal.{Universal}
use Rattle.reduce.proofs.Bindings.{universal_like}
use Rattle.reduce.proofs.tables.universal.Goals as goal

abbrev no_table : Table
no_table = record { scope = []; rows = [] }

pub covers-requires : goal.covers-requires
covers-requires c = one_of c.args.book.now c.tables-tables.result.now c.args.table c.tables-tables.ensures (omega arith)

pub returns : goal.returns
returns c =
    let b = c.args.book.now in
    let i = c.args.table in
    let tables = c.tables-tables.result.now in
    let t = get_or tables i blank in
    let one = one_of b tables i c.tables-tables.ensures (omega arith) in
    let known = (table_valid b t one).known in
    let within : i < length (contents b).tables = omega (arith, c.if-table-tables.false, ap length c.tables-tables.ensures, length-map (tables_at b) (table_at b)) in
    let inner : i < length (tables_at b) = omega (arith, c.if-table-tables.false, ap length c.tables-tables.ensures) in
    let at : get_or (contents b).tables i no_table ≡ table_at b t =
    get_or-map (table_at b) (tables_at b) i blank no_table inner ∙ ap (λ ts. table_at b (get_or ts i blank)) (sym c.tables-tables.ensures) in
    let book-sets = λ (x : ℕ). sets_of (contents b) c.args.sets.now.sets x in
    Decides-like c.covers.result
    (λ u. (within, subst (Universal book-sets) (sym at) (universal_like (placed c.trim.new.sets) book-sets (table_at b t) (λ j l. c.trim.ensures.values (get_or (table_at b t).scope j 0) (known j l)) u)))
    (λ u. universal_like book-sets (placed c.trim.new.sets) (table_at b t) (λ j l. sym (c.trim.ensures.values (get_or (table_at b t).scope j 0) (known j l))) (subst (Universal book-sets) at u.1))
    c.covers.ensures
