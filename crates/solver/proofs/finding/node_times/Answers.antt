-- `finding::node_times` meets its contract.
-- Assumes nothing.
use Rattle.solver.proofs.finding.Placing.{place_none, place_more}
use Rattle.solver.proofs.finding.node_times.Goals as goal

pub loop-p-init : goal.loop-p-init
loop-p-init c = search (place_none)

pub loop-p-preserved : goal.loop-p-preserved
loop-p-preserved c = search (place_more)
