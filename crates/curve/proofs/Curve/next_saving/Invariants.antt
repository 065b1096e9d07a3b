-- What the loop keeps.
use mathlib.Core.Path.{◌≡◌}
use Prim.Native.Nat.{◌+◌}
use Rattle.theory.specs.Sum.{sum}
use Rattle.curve.specs.Curve.{length_at}
use Rattle.curve.proofs.Curve.next_saving.Given as goal

abbrev pub invariant-loop-k : goal.invariant-loop-k
invariant-loop-k l = l.left + sum l.k (length_at l.self) ≡ l.initial.left
