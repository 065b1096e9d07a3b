-- `cone` meets its contract.
-- Assumes nothing.
use Rattle.cone.proofs.Ways.{cone_so}
use Rattle.cone.proofs.cone.Goals as goal

pub returns : goal.returns
returns c = search (cone_so)
