-- What the loop keeps.
use mathlib.Core.Path.{◌≡◌}
use Rattle.curve.proofs.Ways.{slowed_to}
use Rattle.curve.proofs.Curve.power_at.Given as goal

abbrev pub invariant-loop-k : goal.invariant-loop-k
invariant-loop-k l = l.slowing ≡ slowed_to l.self l.initial.slowing.left.0 l.k
