use Rattle.std.proofs.Common.{rules}
use Rattle.store.proofs.Changes.{slots_grown}
use Rattle.store.proofs.slots.calls.SlotStoreStore.tell.Goals as goal

pub returns : goal.returns
returns c = record { change = search rules; grown = search (rules, slots_grown) }
