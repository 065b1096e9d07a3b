-- `slow::last_part` meets its contract.
-- Assumes nothing.
use Rattle.times.proofs.Loops.{scaled}
use Rattle.slow.proofs.Ways.{last_none, last_in, last_more, last_done}
use borrow.Author.Rules.{rules}
use Rattle.slow.proofs.last_part.Goals as goal

pub loop-k-init : goal.loop-k-init
loop-k-init c = last_none _

pub offset_bounds-e-last : goal.offset_bounds-e-last
offset_bounds-e-last c = search (scaled, last_in, rules)

pub bounds-e-last : goal.bounds-e-last
bounds-e-last c = search (last_in, rules)

pub offset_bounds-e-k : goal.offset_bounds-e-k
offset_bounds-e-k c = search (scaled, last_in, rules)

pub bounds-e-k : goal.bounds-e-k
bounds-e-k c = search (scaled, last_in, rules)

pub loop-k-preserved : goal.loop-k-preserved
loop-k-preserved c = search (last_more)

pub returns : goal.returns
returns c = search (last_done)
