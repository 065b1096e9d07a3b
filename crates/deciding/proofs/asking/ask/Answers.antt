-- `asking::ask` meets its contract.
-- Assumes nothing.
use Rattle.deciding.proofs.asking.Asking.{ask_short, ask_none, ask_long, ask_nothing}
use Rattle.deciding.proofs.asking.ask.Goals as goal

pub returns-then-k-first : goal.returns-then-k-first
returns-then-k-first c = search (ask_short)

pub returns-then-k-eq0 : goal.returns-then-k-eq0
returns-then-k-eq0 c = search (ask_none)

pub returns-then-last-k : goal.returns-then-last-k
returns-then-last-k c = search (ask_long)

pub returns : goal.returns
returns c = search (ask_nothing)
