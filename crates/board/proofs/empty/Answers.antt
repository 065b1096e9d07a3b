-- `board::empty` meets its contract.
-- Assumes nothing.
use Rattle.board.proofs.Steps.{emptied}
use Rattle.board.proofs.empty.Goals as goal

pub returns : goal.returns
returns c = search (emptied)
