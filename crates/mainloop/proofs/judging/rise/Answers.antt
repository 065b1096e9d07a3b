-- `judging::rise` meets its contract.
-- Assumes nothing.
use Rattle.mainloop.proofs.judging.Judging.{rise_short, rise_more, rise_shrinks}
use Rattle.mainloop.proofs.judging.rise.Goals as goal

pub returns-then-k-eq0 : goal.returns-then-k-eq0
returns-then-k-eq0 c = search (rise_short)

pub returns-then-k-last : goal.returns-then-k-last
returns-then-k-last c = search (rise_more)

pub returns : goal.returns
returns c = search (rise_shrinks)
