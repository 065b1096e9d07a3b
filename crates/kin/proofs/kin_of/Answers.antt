-- `kin_of` meets its contract.
-- Assumes nothing.
use Rattle.kin.proofs.KinLaws.{kin_so}
use Rattle.kin.proofs.kin_of.Goals as goal

pub returns : goal.returns
returns c = search (kin_so)
