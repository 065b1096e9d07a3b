-- What the loop keeps.
use Rattle.std.proofs.Common.{◌≡◌}
use Rattle.cone.proofs.Ways.{columns_to}
use Rattle.cone.proofs.columns.Given as goal

abbrev pub invariant-loop-l : goal.invariant-loop-l
invariant-loop-l l = l.columns ≡ columns_to l.link l.l-index
