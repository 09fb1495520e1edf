use Rattle.draft.proofs.Trips.{there, back}
use Rattle.draft.proofs.trip_stands.Goals as goal

pub returns : goal.returns
returns c = record { there = there; back = back }
