-- What the loop keeps.
use Rattle.std.proofs.Common.{◌≡◌}
use Rattle.std.specs.Prelude.{None}
use Rattle.cone.specs.Sweeps.{loop_up_to}
use Rattle.cone.proofs.search_loop.Given as goal

abbrev pub invariant-loop-p : goal.invariant-loop-p
invariant-loop-p l = (loop_up_to l.rows l.p ≡ None)
