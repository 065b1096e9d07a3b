-- `cone::rows` meets its contract. The loop: the rows of the links gone by.
-- Assumes nothing.
use Rattle.cone.proofs.Ways.{rows_more, rows_done}
use Rattle.marks.proofs.Rows.{marks_none}
use Rattle.cone.proofs.rows.Goals as goal

pub loop-l-init : goal.loop-l-init
loop-l-init c = marks_none _ _ _

pub loop-l-preserved : goal.loop-l-preserved
loop-l-preserved c = search (rows_more)

pub returns : goal.returns
returns c = search (rows_done)
