use Rattle.std.proofs.Common.{rules}
use Rattle.store.proofs.Changes.{ring_told, ring_grown}
use Rattle.store.proofs.ring.calls.RingStoreStore.tell.Goals as goal

pub returns : goal.returns
returns c = record { change = search (rules, ring_told); grown = search (rules, ring_told, ring_grown) }
