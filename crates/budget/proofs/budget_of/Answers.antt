-- `budget::budget_of` meets its contract.
-- Assumes nothing.
use Rattle.budget.proofs.Making.{made}
use Rattle.budget.proofs.budget_of.Goals as goal

pub returns : goal.returns
returns c = search (made)
