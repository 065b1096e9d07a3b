-- What the loop keeps.
use lib.ListN.{length}
use mathlib.Core.Path.{◌≡◌}
use Rattle.times.proofs.Rounds.{round_of}
use Rattle.times.proofs.in_rounds.Given as goal

abbrev pub invariant-loop-k : goal.invariant-loop-k
invariant-loop-k l = l.e ≡ round_of l.link (length l.link) l.parts l.delay l._k
