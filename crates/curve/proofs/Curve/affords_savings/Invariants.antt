-- What the loop keeps.
use mathlib.Core.Path.{◌≡◌}
use Prim.Native.Nat.{◌+◌}
use Rattle.curve.proofs.Ways.{saved_to}
use Rattle.curve.proofs.Curve.affords_savings.Given as goal

abbrev pub invariant-loop-k : goal.invariant-loop-k
invariant-loop-k l = l.left + saved_to l.self l.k ≡ l.self.power.0
