-- `slow::walk` meets its contract.
-- Assumes nothing.
use Rattle.slow.proofs.Ways.{nowhere, stopped, onward}
use Rattle.slow.proofs.+walk.Goals as goal

pub returns-in_default : goal.returns-in_default
returns-in_default t c = search (nowhere)

pub returns-then-left-eq0 : goal.returns-then-left-eq0
returns-then-left-eq0 t c = search (stopped)

pub returns : goal.returns
returns t c = search (onward)
