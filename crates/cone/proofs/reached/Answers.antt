-- `reached` meets its contract. The loop has visited k parts.
-- Assumes nothing.
use Rattle.cone.proofs.Ways.{sweep_none, sweep_more, sweep_stopped, sweep_done}
use Rattle.cone.proofs.reached.Goals as goal

pub loop-k-init : goal.loop-k-init
loop-k-init c = search (sweep_none)

pub returns-in_default : goal.returns-in_default
returns-in_default c = search (sweep_stopped, c.in_default.ensures.is)

pub loop-k-preserved : goal.loop-k-preserved
loop-k-preserved c = search (sweep_more, c.in-Some.ensures.is)

pub returns : goal.returns
returns c = search (sweep_done)
