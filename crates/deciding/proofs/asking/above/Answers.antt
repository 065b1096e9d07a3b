-- `asking::above` meets its contract.
-- Assumes nothing.
use Rattle.deciding.proofs.asking.Asking.{above_flat, count_begins, count_stops, count_fits, count_more, count_ends}
use Rattle.deciding.proofs.asking.above.Goals as goal

pub returns-then-a-ge64 : goal.returns-then-a-ge64
returns-then-a-ge64 c = search (above_flat)

pub loop-i-init : goal.loop-i-init
loop-i-init c = search (count_begins)

pub returns-then-net-at : goal.returns-then-net-at
returns-then-net-at c = search (count_stops)

pub overflow_add-n : goal.overflow_add-n
overflow_add-n c = search (count_fits)

pub loop-i-preserved : goal.loop-i-preserved
loop-i-preserved c = search (count_more)

pub returns : goal.returns
returns c = search (count_ends)
