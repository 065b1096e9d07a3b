-- What the loop keeps.
use Rattle.solver.specs.Finding.{Topped}
use Rattle.solver.proofs.finding.latest.Given as goal

abbrev pub invariant-loop-t : goal.invariant-loop-t
invariant-loop-t l = Topped l.end l.due l.t-index l.most
