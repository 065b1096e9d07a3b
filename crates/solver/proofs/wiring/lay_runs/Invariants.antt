-- What the loop keeps.
use Rattle.solver.specs.Wiring.{Runs}
use Rattle.solver.proofs.wiring.lay_runs.Given as goal

abbrev pub invariant-loop-k : goal.invariant-loop-k
invariant-loop-k l = Runs l.b l.k l.length l.saving
