-- `reading::budget_at` meets its contract.
-- Assumes nothing.
use Rattle.solver.proofs.reading.Reading.{settled_value}
use Rattle.solver.proofs.reading.budget_at.Goals as goal

pub returns : goal.returns
returns c = search (settled_value)
