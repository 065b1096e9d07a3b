-- `wiring::lay_entries` meets its contract.
-- Assumes nothing.
use Rattle.solver.proofs.wiring.Laying.{laid_none, laid_done, entries_more, entry_in}
use Rattle.solver.proofs.wiring.lay_entries.Goals as goal

pub loop-p-init : goal.loop-p-init
loop-p-init c = laid_none _ _ _

pub put-requires-clause-a_bound : goal.put-requires-clause-a_bound
put-requires-clause-a_bound c = search (entry_in)

pub loop-p-preserved : goal.loop-p-preserved
loop-p-preserved c = search (entries_more)

pub returns : goal.returns
returns c = search (laid_done)
