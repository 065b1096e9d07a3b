-- `wiring::put` meets its contract.
-- Assumes nothing.
use Rattle.solver.proofs.wiring.Laying.{put_done}
use Rattle.solver.proofs.wiring.put.Goals as goal

pub returns : goal.returns
returns c = search (put_done)
