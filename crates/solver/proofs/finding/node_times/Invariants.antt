-- What the loop keeps.
use Rattle.solver.specs.Finding.{Placed}
use Rattle.solver.proofs.finding.node_times.Given as goal

abbrev pub invariant-loop-p : goal.invariant-loop-p
invariant-loop-p l = Placed l.start l.end l.p l.t
