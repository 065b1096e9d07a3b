-- `union` meets its contract.
-- Assumes nothing.
use Rattle.marks.proofs.Ways.{joined}
use Rattle.marks.proofs.union.Goals as goal

pub returns : goal.returns
returns c = search (joined)
