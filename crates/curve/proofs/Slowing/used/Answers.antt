-- `curve::Slowing::used` meets its contract.
-- Assumes nothing.
use Rattle.curve.proofs.Orders.{min_of}
use Rattle.curve.proofs.Ways.{used_way}
use Rattle.curve.proofs.Slowing.used.Goals as goal

pub returns : goal.returns
returns c = used_way _ _ _ _ _ (min_of _ _ _ c.min-used.ensures) c.less.ensures c.less_saved.ensures
