-- `reading::flow_of` meets its contract.
-- Assumes nothing.
use Rattle.solver.proofs.reading.Reading.{flow_done}
use Rattle.solver.proofs.reading.flow_of.Goals as goal

pub returns : goal.returns
returns c = search (flow_done, c.copy_from_slice.ensures.after)
