-- `one` meets its contract.
-- Assumes nothing.
use Rattle.marks.proofs.Ways.{shifted, none}
use Rattle.marks.proofs.one.Goals as goal

pub returns-then-n-lt64 : goal.returns-then-n-lt64
returns-then-n-lt64 c = search (shifted)

pub returns : goal.returns
returns c = search (none)
