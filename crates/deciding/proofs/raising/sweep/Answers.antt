-- `raising::sweep` meets its contract.
-- Assumes nothing.
use Rattle.deciding.proofs.raising.Raising.{sweep_fails, sweep_more}
use Rattle.deciding.proofs.raising.sweep.Goals as goal

pub returns-in_err-raised : goal.returns-in_err-raised
returns-in_err-raised c = rw c.from_residual.ensures (search (sweep_fails, c.in_err-raised.ensures))

pub loop-a-preserved : goal.loop-a-preserved
loop-a-preserved c = search (sweep_more, c.in_ok-raised.ensures)
