-- `curve::Curve::next_saving` meets its contract. The loop: the ticks left and those of the first k runs are the ticks past the fastest.
-- Assumes nothing.
use Rattle.curve.proofs.Ways.{next_none, next_here, next_past, next_more}
use Rattle.curve.proofs.Curve.next_saving.Goals as goal

pub loop-k-init : goal.loop-k-init
loop-k-init c = search (next_none)

pub returns-then-left-run : goal.returns-then-left-run
returns-then-left-run c = search (next_here)

pub loop-k-preserved : goal.loop-k-preserved
loop-k-preserved c = search (next_more)

pub returns : goal.returns
returns c = search (next_past)
