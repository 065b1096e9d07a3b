-- `finding::slowest_schedule` meets its contract.
-- Assumes nothing.
use Rattle.solver.proofs.finding.Finding.{schedule_slowest}
use Rattle.std.proofs.Common.{rules}
use Rattle.solver.proofs.finding.slowest_schedule.Goals as goal

pub returns : goal.returns
returns c = schedule_slowest _ (search rules) _ c.slowest_delays-d.ensures _ c.times_of.ensures
