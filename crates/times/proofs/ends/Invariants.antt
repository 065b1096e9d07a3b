-- What the loop keeps.
use Rattle.times.specs.Rounds.{ends_of}
use mathlib.Core.Path.{◌≡◌}
use Rattle.times.proofs.ends.Given as goal

abbrev pub invariant-loop-k : goal.invariant-loop-k
invariant-loop-k l = l.e ≡ ends_of l.s l.delay l.k
