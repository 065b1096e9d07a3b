-- What the loop keeps.
use mathlib.Core.Path.{◌≡◌}
use Prim.Native.Nat.{min}
use Rattle.curve.proofs.Ways.{slow_to}
use Rattle.curve.proofs.Curve.slowest.Given as goal

abbrev pub invariant-loop-k : goal.invariant-loop-k
invariant-loop-k l = l.delay.0 ≡ min (slow_to l.self l.k) 4294967295
