-- `curve::Curve::last_saving` meets its contract.
-- Assumes nothing.
use Rattle.curve.proofs.Ways.{none_used, one_used}
use Rattle.curve.proofs.Orders.{le_from, lt_from_not_le}
use Rattle.curve.proofs.Curve.last_saving.Goals as goal

pub returns-then-le : goal.returns-then-le
returns-then-le c = search (none_used, le_from)

pub returns : goal.returns
returns c = search (one_used, lt_from_not_le)
