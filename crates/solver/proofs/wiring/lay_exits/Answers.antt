-- `wiring::lay_exits` meets its contract.
-- Assumes nothing.
use Rattle.solver.proofs.wiring.Laying.{laid_none, laid_done, exits_more, exit_in}
use Rattle.solver.proofs.wiring.lay_exits.Goals as goal

pub loop-p-init : goal.loop-p-init
loop-p-init c = laid_none _ _ _

pub put-requires-clause-a_bound : goal.put-requires-clause-a_bound
put-requires-clause-a_bound c = search (exit_in)

pub loop-p-preserved : goal.loop-p-preserved
loop-p-preserved c = search (exits_more)

pub returns : goal.returns
returns c = search (laid_done)
