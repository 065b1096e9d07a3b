-- `budget::power_of` meets its contract.
-- Assumes nothing.
use Rattle.budget.proofs.Making.{power_or_none}
use Rattle.budget.proofs.power_of.Goals as goal

pub returns : goal.returns
returns c = search (power_or_none)
