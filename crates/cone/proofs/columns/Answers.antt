-- `cone::columns` meets its contract. The loop: the columns of the links gone by.
-- Assumes nothing.
use Rattle.cone.proofs.Ways.{columns_more, columns_done}
use Rattle.marks.proofs.Rows.{marks_none}
use Rattle.cone.proofs.columns.Goals as goal

pub loop-l-init : goal.loop-l-init
loop-l-init c = marks_none _ _ _

pub loop-l-preserved : goal.loop-l-preserved
loop-l-preserved c = search (columns_more)

pub returns : goal.returns
returns c = search (columns_done)
