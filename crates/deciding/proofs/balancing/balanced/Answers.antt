-- `balancing::balanced` meets its contract.
-- Assumes nothing.
use Rattle.deciding.proofs.balancing.Balancing.{weigh_begins, balance_ends}
use Rattle.deciding.proofs.balancing.balanced.Goals as goal

pub weigh-requires-clause-weighing : goal.weigh-requires-clause-weighing
weigh-requires-clause-weighing c = search (weigh_begins, c.fill.ensures.after (λ y e. e))

pub returns-then-weigh : goal.returns-then-weigh
returns-then-weigh c = search (balance_ends, c.if-weigh.ensures)
