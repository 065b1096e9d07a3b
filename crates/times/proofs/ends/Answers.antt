-- `times::ends` meets its contract.
-- Assumes nothing.
use Rattle.base.proofs.TableLaws.{all_table}
use Rattle.times.proofs.Loops.{ends_none, ends_more, ends_done}
use Rattle.times.proofs.ends.Goals as goal

pub loop-k-init : goal.loop-k-init
loop-k-init c = search (ends_none, all_table)

pub loop-k-preserved : goal.loop-k-preserved
loop-k-preserved c = search (ends_more)

pub returns : goal.returns
returns c = search (ends_done)
