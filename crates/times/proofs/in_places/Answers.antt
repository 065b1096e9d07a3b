-- `times::in_places` meets its contract. The loop: the links gone by join two places.
-- Assumes nothing.
use Rattle.times.proofs.Loops.{places_none, places_more, from_outside, to_outside, places_done}
use Rattle.times.proofs.in_places.Goals as goal

pub loop-l-init : goal.loop-l-init
loop-l-init c = search (places_none)

pub returns-then-l-ge64 : goal.returns-then-l-ge64
returns-then-l-ge64 c = search (from_outside)

pub returns-then-l-ge64-2 : goal.returns-then-l-ge64-2
returns-then-l-ge64-2 c = search (to_outside)

pub loop-l-preserved : goal.loop-l-preserved
loop-l-preserved c = search (places_more)

pub returns : goal.returns
returns c = search (places_done)
