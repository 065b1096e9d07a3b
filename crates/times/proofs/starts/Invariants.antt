-- What the loop keeps.
use Rattle.times.specs.Rounds.{starts_of}
use mathlib.Core.Path.{◌≡◌}
use Rattle.times.proofs.starts.Given as goal

abbrev pub invariant-loop-l : goal.invariant-loop-l
invariant-loop-l l = l.s ≡ starts_of l.link l.l-index l.e
