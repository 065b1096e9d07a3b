-- `cone::upstream` meets its contract.
-- Assumes nothing.
use Rattle.cone.proofs.Cones.{upstream_said}
use Rattle.cone.proofs.upstream.Goals as goal

pub returns : goal.returns
returns c = search (upstream_said)
