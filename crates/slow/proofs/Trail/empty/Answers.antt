-- `slow::Trail::empty` meets its contract.
-- Assumes nothing.
use Rattle.std.proofs.Common.{refl}
use Rattle.slow.specs.Walk.{trail_of}
use Rattle.slow.proofs.Trail.empty.Goals as goal

pub returns : goal.returns
unfolding trail_of
returns c = refl
