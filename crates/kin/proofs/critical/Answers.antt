-- `kin::critical` meets its contract.
-- Assumes nothing.
use Rattle.kin.proofs.Ways.{from_past, to_past, compared}
use Rattle.kin.proofs.critical.Goals as goal

pub returns-then-p-ge64 : goal.returns-then-p-ge64
returns-then-p-ge64 c = search (from_past)

pub returns-then-q-ge64 : goal.returns-then-q-ge64
returns-then-q-ge64 c = search (to_past)

pub returns : goal.returns
returns c = search (compared)
