-- `has` meets its contract.
-- Assumes nothing.
use Rattle.marks.proofs.Ways.{asked, asked_past}
use Rattle.marks.proofs.has.Goals as goal

pub returns-then-n-lt64 : goal.returns-then-n-lt64
returns-then-n-lt64 c = search (asked)

pub returns : goal.returns
returns c = search (asked_past)
