-- `late::left` meets its contract.
-- Assumes nothing.
use Rattle.base.proofs.TableLaws.{all_table}
use Rattle.late.proofs.Loops.{left_none, left_more, left_done}
use Rattle.late.proofs.left.Goals as goal

pub loop-k-init : goal.loop-k-init
loop-k-init c = search (left_none, all_table)

pub loop-k-preserved : goal.loop-k-preserved
loop-k-preserved c = search (left_more)

pub returns : goal.returns
returns c = search (left_done)
