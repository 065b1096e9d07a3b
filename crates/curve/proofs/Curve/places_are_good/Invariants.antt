-- What the loop keeps.
use mathlib.Core.Path.{◌≡◌}
use mathlib.Core.Bool.{true}
use Rattle.curve.specs.Tests.{every, placeb}
use Rattle.curve.proofs.Curve.places_are_good.Given as goal

abbrev pub invariant-loop-k : goal.invariant-loop-k
invariant-loop-k l = every l.k (placeb l.self) ≡ true
