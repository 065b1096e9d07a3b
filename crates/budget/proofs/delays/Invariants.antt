-- What the loop keeps.
use mathlib.Core.Path.{◌≡◌}
use Rattle.budget.specs.Made.{delays_of}
use Rattle.budget.proofs.delays.Given as goal

abbrev pub invariant-loop-k : goal.invariant-loop-k
invariant-loop-k l = l.d ≡ delays_of l.k l.start l.end
