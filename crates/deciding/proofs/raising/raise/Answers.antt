-- `raising::raise` meets its contract.
-- Assumes nothing.
use Rattle.deciding.proofs.raising.Raising.{follow_fails, raise_less, raise_more, raise_ends}
use Rattle.deciding.proofs.raising.raise.Goals as goal

pub returns-in_err-sweep : goal.returns-in_err-sweep
returns-in_err-sweep c = rw c.from_residual-in_err-sweep.ensures (search (follow_fails, c.in_err-sweep.ensures))

pub loop-smaller : goal.loop-smaller
loop-smaller c = search (raise_less, c.in_ok-sweep.ensures)

pub loop-preserved : goal.loop-preserved
loop-preserved c = search (raise_more, c.in_ok-sweep.ensures)

pub returns : goal.returns
returns c = search (raise_ends, c.in_ok-sweep.ensures)
