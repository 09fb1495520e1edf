use Rattle.std.proofs.Common.{rules}
use Rattle.book.specs.Books.{contents}
use Rattle.ask.proofs.Starts.{trimmed_total, trial_whole}
use Rattle.ask.proofs.asking.ask.Goals as goal

pub search-requires-clause-values : goal.search-requires-clause-values
search-requires-clause-values g c = trimmed_total (contents c.args.book.now) c.args.start.now.sets c.trim.new.sets c.trim.ensures

pub returns-clause-asks : goal.returns-clause-asks
returns-clause-asks g c = trial_whole (contents c.args.book.now) _ _ _ c.args.start.now.sets c.trim.ensures (search rules) c.search.ensures.asks
