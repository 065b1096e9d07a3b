-- `budget::total_of` meets its contract.
-- Assumes nothing.
use Rattle.budget.proofs.Making.{total_none, total_more, total_done, total_fits}
use Rattle.budget.proofs.total_of.Goals as goal

pub loop-p-init : goal.loop-p-init
loop-p-init c = search (total_none)

pub with_power-sum-requires : goal.with_power-sum-requires
with_power-sum-requires c = search (total_fits)

pub loop-p-preserved : goal.loop-p-preserved
loop-p-preserved c = search (total_more)

pub returns : goal.returns
returns c = search (total_done)
