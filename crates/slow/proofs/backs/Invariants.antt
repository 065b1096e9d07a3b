-- What the loop keeps.
use Rattle.times.specs.Rounds.{InPlaces}
use Rattle.slow.specs.Walk.{backs_of}
use mathlib.Core.Path.{◌≡◌}
use lib.ListN.{length}
use Rattle.slow.proofs.backs.Given as goal

abbrev pub invariant-loop-l : goal.invariant-loop-l
invariant-loop-l l = InPlaces l.link (length l.link) → l.back ≡ backs_of l.link l.s l.e l.l-index
