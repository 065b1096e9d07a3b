-- `visited` meets its contract.
-- Assumes nothing.
use Rattle.cone.proofs.Ways.{visited_so}
use Rattle.cone.proofs.visited.Goals as goal

pub returns : goal.returns
returns c = search (visited_so)
