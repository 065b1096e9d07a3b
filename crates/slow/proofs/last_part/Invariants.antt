-- What the loop keeps.
use Rattle.slow.specs.Walk.{last_of}
use mathlib.Core.Path.{◌≡◌}
use Rattle.slow.proofs.last_part.Given as goal

abbrev pub invariant-loop-k : goal.invariant-loop-k
invariant-loop-k l = l.last ≡ last_of l.e l.k
