-- `board::curve_good` meets its contract.
-- Assumes nothing.
use Rattle.board.proofs.TestLaws.{curve_good_is, curve_blank_is}
use Rattle.board.proofs.curve_good.Goals as goal

pub returns-then-p-parts : goal.returns-then-p-parts
returns-then-p-parts c = search (curve_good_is)

pub returns : goal.returns
returns c = search (curve_blank_is)
