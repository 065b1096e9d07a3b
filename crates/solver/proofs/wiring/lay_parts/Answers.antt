-- `wiring::lay_parts` meets its contract.
-- Assumes nothing.
use Rattle.solver.proofs.wiring.Laying.{laid_none, laid_done, parts_more}
use Rattle.solver.proofs.wiring.lay_parts.Goals as goal

pub loop-p-init : goal.loop-p-init
loop-p-init c = laid_none _ _ _

pub loop-p-preserved : goal.loop-p-preserved
loop-p-preserved c = search (parts_more)

pub returns : goal.returns
returns c = search (laid_done)
