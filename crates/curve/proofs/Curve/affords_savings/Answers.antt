-- `curve::Curve::affords_savings` meets its contract. The loop: what is left and what the first k runs save are the power.
-- Assumes nothing.
use Rattle.curve.proofs.Ways.{paid_none, paid_more, unpaid, paid}
use Rattle.curve.proofs.Curve.affords_savings.Goals as goal

pub loop-k-init : goal.loop-k-init
loop-k-init c = paid_none _

pub returns-then-left-saved : goal.returns-then-left-saved
returns-then-left-saved c = search (unpaid)

pub loop-k-preserved : goal.loop-k-preserved
loop-k-preserved c = search (paid_more)

pub returns : goal.returns
returns c = search (paid)
