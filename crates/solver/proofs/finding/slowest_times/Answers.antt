-- `finding::slowest_times` meets its contract.
-- Assumes nothing.
use Rattle.solver.proofs.finding.Finding.{slowest_begun}
use Rattle.solver.proofs.finding.slowest_times.Goals as goal

pub returns : goal.returns
returns c = search (slowest_begun)
