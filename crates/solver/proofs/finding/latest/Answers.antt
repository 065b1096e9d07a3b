-- `finding::latest` meets its contract.
-- Assumes nothing.
use Rattle.solver.proofs.finding.Placing.{top_none, top_more}
use Rattle.solver.proofs.finding.latest.Goals as goal

pub loop-t-init : goal.loop-t-init
loop-t-init c = search (top_none)

pub loop-t-preserved : goal.loop-t-preserved
loop-t-preserved c = search (top_more)
