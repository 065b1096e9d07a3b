-- `raising::follow` meets its contract.
-- Assumes nothing.
use Rattle.deciding.proofs.raising.Raising.{follow_begins, follow_fails, follow_more}
use Rattle.deciding.proofs.raising.follow.Goals as goal

pub loop-a-init : goal.loop-a-init
loop-a-init c = search (follow_begins)

pub returns-in_err-settle : goal.returns-in_err-settle
returns-in_err-settle c = rw c.from_residual.ensures (search (follow_fails, c.in_err-settle.ensures))

pub loop-a-preserved : goal.loop-a-preserved
loop-a-preserved c = search (follow_more, c.in_ok-settle.ensures)
