-- `times::times_of` meets its contract.
-- Assumes nothing.
use Rattle.times.proofs.TimesLaws.{board_times}
use Rattle.times.proofs.times_of.Goals as goal

pub returns : goal.returns
returns c = search (board_times)
