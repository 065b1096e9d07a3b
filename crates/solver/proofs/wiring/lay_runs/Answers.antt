-- `wiring::lay_runs` meets its contract.
-- Assumes nothing.
use Rattle.solver.proofs.wiring.Laying.{runs_none, runs_more}
use Rattle.solver.proofs.wiring.lay_runs.Goals as goal

pub loop-k-init : goal.loop-k-init
loop-k-init c = search (runs_none)

pub loop-k-preserved : goal.loop-k-preserved
loop-k-preserved c = search (runs_more)
