-- `gathered` meets its contract. The loop has joined the rows of the first k.
-- Assumes nothing.
use Rattle.kin.proofs.Ways.{gathered_none, gathered_more, gathered_done}
use Rattle.kin.proofs.gathered.Goals as goal

pub loop-k-init : goal.loop-k-init
loop-k-init c = gathered_none _ _ _

pub loop-k-preserved : goal.loop-k-preserved
loop-k-preserved c = search (gathered_more)

pub returns : goal.returns
returns c = search (gathered_done)
