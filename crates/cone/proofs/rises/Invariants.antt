-- What the loop keeps.
use Rattle.cone.specs.Ranks.{Rising}
use Rattle.cone.proofs.rises.Given as goal

abbrev pub invariant-loop-l : goal.invariant-loop-l
invariant-loop-l l = Rising l.link l.rank l.l-index
