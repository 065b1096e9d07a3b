-- `mark` meets its contract.
-- Assumes nothing.
use Rattle.marks.proofs.Rows.{mark_put, mark_past}
use Rattle.marks.proofs.mark.Goals as goal

pub returns-then-p-lt64 : goal.returns-then-p-lt64
returns-then-p-lt64 c = search (mark_put)

pub returns-else-p-lt64 : goal.returns-else-p-lt64
returns-else-p-lt64 c = search (mark_past)
