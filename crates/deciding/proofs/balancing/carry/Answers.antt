-- `balancing::carry` meets its contract.
-- Assumes nothing.
use Rattle.deciding.proofs.balancing.Balancing.{carry_enough, carry_ends}
use Rattle.deciding.proofs.balancing.carry.Goals as goal

pub overflow_sub-sum : goal.overflow_sub-sum
overflow_sub-sum c = search (carry_enough)

pub returns : goal.returns
returns c = search (carry_ends)
