-- `on_loop` meets its contract.
-- Assumes nothing.
use Rattle.cone.proofs.Ways.{on_loop_so}
use Rattle.cone.proofs.on_loop.Goals as goal

pub returns : goal.returns
returns c = search (on_loop_so)
