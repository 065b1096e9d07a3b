-- `cone::rises` meets its contract. The loop: ranks rise along the links gone by.
-- Assumes nothing.
use Rattle.cone.proofs.Loops.{rising_none, rising_more, rising_done, not_rising}
use Rattle.cone.proofs.rises.Goals as goal

pub loop-l-init : goal.loop-l-init
loop-l-init c = rising_none _ _

pub returns-then-rank-l : goal.returns-then-rank-l
returns-then-rank-l c = search (not_rising)

pub loop-l-preserved : goal.loop-l-preserved
loop-l-preserved c = search (rising_more)

pub returns : goal.returns
returns c = search (rising_done)
