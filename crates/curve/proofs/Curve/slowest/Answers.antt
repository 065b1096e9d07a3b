-- `curve::Curve::slowest` meets its contract. The loop: after k runs the delay is the fastest plus their lengths, cut to its type.
-- Assumes nothing.
use Rattle.curve.proofs.Ways.{slow_none, slow_more, slow_done}
use Rattle.curve.proofs.Curve.slowest.Goals as goal

pub loop-k-init : goal.loop-k-init
loop-k-init c = search (slow_none)

pub loop-k-preserved : goal.loop-k-preserved
loop-k-preserved c = search (slow_more)

pub returns : goal.returns
returns c = search (slow_done)
