use Rattle.book.specs.Books.{contents}
use Rattle.grammar.proofs.Validity.{valid_out}
use Rattle.sheet.specs.Decisions.{stands}
use Rattle.sheet.specs.Runs.{standing}
use Rattle.shared.proofs.Promises.{starts_alike, stays_dead, promised}
use Rattle.shared.proofs.calls.ask_on.Goals as goal

pub returns-clause-after : goal.returns-clause-after
returns-clause-after g c =
    let b = c.args.book.now in
    let asks = c.ask.ensures.asks in
    λ calls so. record { keeps = so.keeps; dead = stays_dead (contents b) (valid_out (contents b) b.valid) g.S.Store _ _ _ _ _ _ so.dead asks c.starting_sets-start.ensures.long }

pub returns-clause-promised : goal.returns-clause-promised
returns-clause-promised g c =
    let b = c.args.book.now in
    let valid = valid_out (contents b) b.valid in
    λ calls so.
    promised (contents b) valid g.S.Store _ _ _ _ _ _ so.dead c.ask.ensures.asks (standing (contents b) calls)
    (starts_alike (contents b) valid.few (stands c.args.sheet.now.sets) (standing (contents b) calls) so.keeps _ c.starting_sets-start.ensures)
