-- `board::below` meets its contract.
-- Assumes nothing.
use mathlib.Core.Path.{◌∙◌}
use Rattle.board.proofs.Steps.{pairs_below}
use Rattle.board.proofs.below.Goals as goal

pub returns : goal.returns
returns c = c.lt.ensures ∙ pairs_below _ _
