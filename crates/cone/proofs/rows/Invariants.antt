-- What the loop keeps.
use Rattle.std.proofs.Common.{◌≡◌}
use Rattle.cone.proofs.Ways.{rows_to}
use Rattle.cone.proofs.rows.Given as goal

abbrev pub invariant-loop-l : goal.invariant-loop-l
invariant-loop-l l = l.rows ≡ rows_to l.link l.l-index
