use Rattle.std.proofs.Common.{◌-◌, length, arith, rules}
use Rattle.book.proofs.Names.{name_ordered, name_value}
use Rattle.book.proofs.book.Book.name.Goals as goal

pub slice_bounds-result-count : goal.slice_bounds-result-count
slice_bounds-result-count c =
    let b = c.args.self.now in
    name_ordered b.file.now b.index.sizes b.index.lengths (length b.file.now - b.index.letters) b.index.options c.args.option _ _ (grind arith) (grind arith) (grind arith) c.name_start-start.ensures.place c.name_start-end.ensures.place

pub slice_bounds-result-start : goal.slice_bounds-result-start
slice_bounds-result-start c =
    let b = c.args.self.now in
    let le = name_ordered b.file.now b.index.sizes b.index.lengths (length b.file.now - b.index.letters) b.index.options c.args.option _ _ (grind arith) (grind arith) (grind arith) c.name_start-start.ensures.place c.name_start-end.ensures.place in
    search rules

pub returns-clause-value : goal.returns-clause-value
returns-clause-value c =
    let b = c.args.self.now in
    let base = length b.file.now - b.index.letters in
    name_value b.file.now b.index.sizes b.index.lengths base b.index.options c.args.option _ _ (grind arith) (grind arith) (grind arith) c.name_start-start.ensures.place c.name_start-end.ensures.place
