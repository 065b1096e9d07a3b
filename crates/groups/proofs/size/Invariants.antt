-- What the loop keeps, and its measure.
use mathlib.Core.Path.{◌≡◌}
use Prim.Native.Nat.{◌<◌, ◌+◌}
use lib.ListN.{length}
use Rattle.groups.specs.Number.{limit, encode}
use Rattle.groups.proofs.size.Given as goal

abbrev pub invariant-loop-above : goal.invariant-loop-above
invariant-loop-above l = (l.count + length (encode l.above) ≡ length (encode l.n)) × (l.above < limit)

abbrev pub decreases-loop-above : goal.decreases-loop-above
decreases-loop-above l = l.above
