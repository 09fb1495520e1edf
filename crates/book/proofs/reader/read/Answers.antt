use Rattle.std.proofs.Common.{◌≡◌, ℕ, ◌-◌, ◌<◌, ◌++◌, get_or, take, drop, Err, sym, ap, ◌∙◌, arith}
use native.Mathlib.Nat.{sub-zero}
use Rattle.grammar.specs.Grammar.{book}
use Rattle.book_source.specs.Files.{in_file}
use Rattle.grammar.specs.Layout.{contents_of}
use Rattle.book.specs.Parse.{filled}
use Rattle.book_source.specs.Readings.{told}
use Rattle.book.proofs.ReadFile.{read_refused, read_value, read_rows, read_index}
use Rattle.book.proofs.reader.read.Goals as goal

pub returns-then-rows-count : goal.returns-then-rows-count
returns-then-rows-count c =
    let file = c.args.file.now in
    let i = c.in_ok-index.index in
    let out = c.read_from.new.out in
    let names = c.read_from.new.names in
    let bytes : (k : ℕ) → get_or file k 0 < 256 = λ k. omega (arith, c.type_inv.file k) in
    let is = (λ t. book (in_file (sym c.new-cursor.ensures.file t).now) (sym c.new-cursor.ensures.at t))
    ∙ sym c.read_from.ensures.value ∙ ap (λ r. told (contents_of out names) r c.read_from.new.source.at) c.in_ok-index.was in
    let value = read_refused file bytes (omega arith) out names i c.read_from.new.source.at is c.in_ok-index.ensures.shape (omega (arith, c.read_from.auto.out)) (omega (arith, c.read_from.auto.names)) c.args.rows.now (omega arith) in
    record { value = ap Err c.whole-then-rows-count.ensures ∙ value; rows = ap (λ r. filled r c.args.rows.now) value; index = tt }

pub returns : goal.returns
returns c =
    let file = c.args.file.now in
    let i = c.in_ok-index.index in
    let out = c.read_from.new.out in
    let names = c.read_from.new.names in
    let old = c.args.rows.now in
    let bytes : (k : ℕ) → get_or file k 0 < 256 = λ k. omega (arith, c.type_inv.file k) in
    let is = (λ t. book (in_file (sym c.new-cursor.ensures.file t).now) (sym c.new-cursor.ensures.at t))
    ∙ sym c.read_from.ensures.value ∙ ap (λ r. told (contents_of out names) r c.read_from.new.source.at) c.in_ok-index.was in
    let shape = c.in_ok-index.ensures.shape in
    let put : c.copy_from_slice.new.self ++ drop (i.rows - 0) old ≡ take i.rows out ++ drop i.rows old =
    (λ t. (c.copy_from_slice.ensures.after ∙ ap (λ k. take k out) (sub-zero i.rows)) t ++ drop (sub-zero i.rows t) old) in
    record {
      value = read_value file bytes (omega arith) out names i _ is shape (omega (arith, c.read_from.auto.out)) (omega (arith, c.read_from.auto.names)) old _ (omega arith) put;
      rows = read_rows file bytes (omega arith) out names i _ is shape (omega (arith, c.read_from.auto.out)) (omega (arith, c.read_from.auto.names)) old _ (omega arith) put;
      index = read_index file bytes (omega arith) out names i _ is shape (omega (arith, c.read_from.auto.out)) (omega (arith, c.read_from.auto.names)) old _ (omega arith) put;
    }
