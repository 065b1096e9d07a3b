-- `wiring::wire` meets its contract.
-- Assumes nothing.
use Rattle.solver.proofs.wiring.Wiring.{network_laid}
use Rattle.solver.proofs.wiring.wire.Goals as goal

pub returns : goal.returns
returns c = search (network_laid)
