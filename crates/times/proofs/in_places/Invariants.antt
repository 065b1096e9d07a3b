-- What the loop keeps.
use Rattle.times.specs.Rounds.{InPlaces}
use Rattle.times.proofs.in_places.Given as goal

abbrev pub invariant-loop-l : goal.invariant-loop-l
invariant-loop-l l = InPlaces l.link l.l-index
