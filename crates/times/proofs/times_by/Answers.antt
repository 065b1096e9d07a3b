-- `times::times_by` meets its contract.
-- Assumes nothing.
use Rattle.times.proofs.Loops.{places_hold}
use Rattle.times.proofs.Rounds.{no_places, guess_stands, by_rounds}
use Rattle.times.proofs.times_by.Goals as goal

pub returns-then-not-in_places : goal.returns-then-not-in_places
returns-then-not-in_places c = search (no_places)

pub starts-s-requires : goal.starts-s-requires
starts-s-requires c = search (places_hold)

pub returns-then-eq : goal.returns-then-eq
returns-then-eq c = search (guess_stands)

pub in_rounds-requires-clause-places : goal.in_rounds-requires-clause-places
in_rounds-requires-clause-places c = search (places_hold)

pub returns : goal.returns
returns c = search (by_rounds)
