-- What the loop keeps.
use mathlib.Core.Path.{◌≡◌}
use Rattle.late.specs.Late.{left_of}
use Rattle.late.proofs.left.Given as goal

abbrev pub invariant-loop-k : goal.invariant-loop-k
invariant-loop-k l = l.e ≡ left_of l.due.0 l.s l.k
