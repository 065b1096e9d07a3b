-- What the loop keeps.
use mathlib.Core.Path.{◌≡◌}
use Rattle.kin.specs.Steps.{rows_up_to}
use Rattle.kin.proofs.critical_rows.Given as goal

abbrev pub invariant-loop-k : goal.invariant-loop-k
invariant-loop-k l = l.t ≡ rows_up_to l.b l.held l.k
