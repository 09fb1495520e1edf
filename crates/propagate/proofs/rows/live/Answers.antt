use Rattle.std.proofs.Common.{◌<◌, arith, rules, tests}
use Rattle.std.proofs.lemmas.Iterator.{cases_from_all, YieldsList-from_slice, YieldsList-from_zip}
use Rattle.std.proofs.lemmas.Iterator.Adapters.{serves_from_places}
use Rattle.propagate.specs.Sets.{placed}
use Rattle.propagate.proofs.Living.{GoesOn, Stops, firsts_at, seconds_at, live_decided}
use Rattle.propagate.proofs.rows.live.Goals as goal

pub all-requires-clause-callable : goal.all-requires-clause-callable
all-requires-clause-callable c =
    let scope = c.args.scope.now in
    let row = c.args.row.now in
    serves_from_places (YieldsList-from_zip (YieldsList-from_slice scope cc) (YieldsList-from_slice row cc)) (λ x q k. search (rules, tests)) (λ x k l e.
    let known : x.0.now < 24 = firsts_at scope row c.requires.long (λ x. x < 24) k (x.0.now, x.1.now) l e c.requires.known in
    let small : x.1.now < 32 = seconds_at scope row c.requires.long (λ x. x < 32) k (x.0.now, x.1.now) l e c.requires.small in
    search (rules, arith))

pub returns : goal.returns
returns c =
    let scope = c.args.scope.now in
    let row = c.args.row.now in
    let sets = placed c.args.sets.now in
    live_decided scope row c.requires.long sets c.all.result (cases_from_all c.all.new.self _ c.all.result (GoesOn sets) (Stops sets) c.all.ensures.ran (YieldsList-from_zip {s = c.zip.result} (YieldsList-from_slice scope cc) (YieldsList-from_slice row cc)) (λ x q k. search (rules, tests)) (λ x q k. search (rules, tests)))
