-- `judging::fall` meets its contract.
-- Assumes nothing.
use Rattle.mainloop.proofs.judging.Judging.{fall_less, fall_stretches}
use Rattle.mainloop.proofs.judging.fall.Goals as goal

pub returns-then-next-k : goal.returns-then-next-k
returns-then-next-k c = search (fall_less)

pub returns : goal.returns
returns c = search (fall_stretches)
