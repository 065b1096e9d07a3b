-- `search_loop` meets its contract. The loop has found no part below p on a loop.
-- Assumes nothing.
use Rattle.cone.proofs.Loops.{free_none, free_more, said_at, said_free}
use Rattle.cone.proofs.search_loop.Goals as goal

pub loop-p-init : goal.loop-p-init
loop-p-init c = free_none _

pub returns-then-on_loop : goal.returns-then-on_loop
returns-then-on_loop c = search (said_at)

pub loop-p-preserved : goal.loop-p-preserved
loop-p-preserved c = search (free_more)

pub returns : goal.returns
returns c = search (said_free)
