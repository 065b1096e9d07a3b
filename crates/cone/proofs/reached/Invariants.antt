-- What the loop keeps.
use Rattle.std.proofs.Common.{◌≡◌}
use Rattle.cone.specs.Sweeps.{sweep_up_to}
use Rattle.cone.proofs.reached.Given as goal

abbrev pub invariant-loop-k : goal.invariant-loop-k
invariant-loop-k l = l.s ≡ sweep_up_to l.rows l.from l._k
