-- What the loop keeps.
use mathlib.Core.Path.{◌≡◌}
use mathlib.Core.Bool.{true}
use Rattle.curve.specs.Tests.{every}
use Rattle.board.specs.Tests.{curve_test}
use Rattle.board.proofs.curves_good.Given as goal

abbrev pub invariant-loop-p : goal.invariant-loop-p
invariant-loop-p l = every l.p (curve_test l.b) ≡ true
