-- `board::blank_curve` meets its contract.
-- Assumes nothing.
use Rattle.board.proofs.Steps.{flat_blank}
use Rattle.board.proofs.blank_curve.Goals as goal

pub returns : goal.returns
returns c = search (flat_blank)
