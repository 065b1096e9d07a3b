-- `budget::powers` meets its contract.
-- Assumes nothing.
use Rattle.base.proofs.TableLaws.{all_table}
use Rattle.budget.proofs.Making.{powers_none, powers_more, powers_done}
use Rattle.budget.proofs.powers.Goals as goal

pub loop-k-init : goal.loop-k-init
loop-k-init c = search (powers_none, all_table)

pub loop-k-preserved : goal.loop-k-preserved
loop-k-preserved c = search (powers_more)

pub returns : goal.returns
returns c = search (powers_done)
