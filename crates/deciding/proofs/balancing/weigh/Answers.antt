-- `balancing::weigh` meets its contract.
-- Assumes nothing.
use Rattle.deciding.proofs.balancing.Balancing.{weigh_able, weigh_more, weigh_large}
use Rattle.deciding.proofs.balancing.weigh.Goals as goal

pub carry-requires : goal.carry-requires
carry-requires c = search (weigh_able)

pub returns-then-load-a-gt64000 : goal.returns-then-load-a-gt64000
returns-then-load-a-gt64000 c = search (weigh_large)

pub loop-a-preserved : goal.loop-a-preserved
loop-a-preserved c = search (weigh_more)
