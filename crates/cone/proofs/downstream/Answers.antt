-- `downstream` meets its contract.
-- Assumes nothing.
use Rattle.cone.proofs.Cones.{downstream_said}
use Rattle.cone.proofs.downstream.Goals as goal

pub returns : goal.returns
returns c = search (downstream_said)
