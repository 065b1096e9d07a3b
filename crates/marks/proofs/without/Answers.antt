-- `without` meets its contract.
-- Assumes nothing.
use Rattle.marks.proofs.Ways.{cut}
use Rattle.marks.proofs.without.Goals as goal

pub returns : goal.returns
returns c = search (cut)
