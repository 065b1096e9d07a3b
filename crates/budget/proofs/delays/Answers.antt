-- `budget::delays` meets its contract.
-- Assumes nothing.
use Rattle.base.proofs.TableLaws.{all_table}
use Rattle.budget.proofs.Making.{delays_none, delays_more, delays_done}
use Rattle.budget.proofs.delays.Goals as goal

pub loop-k-init : goal.loop-k-init
loop-k-init c = search (delays_none, all_table)

pub loop-k-preserved : goal.loop-k-preserved
loop-k-preserved c = search (delays_more)

pub returns : goal.returns
returns c = search (delays_done)
