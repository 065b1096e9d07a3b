-- `lowest` meets its contract.
-- Assumes nothing.
use Rattle.marks.proofs.Ways.{low_none, low_some, low_small, low_fits}
use Rattle.marks.proofs.lowest.Goals as goal

pub returns-then-set-eq0-clause-is : goal.returns-then-set-eq0-clause-is
returns-then-set-eq0-clause-is c = search (low_none)

pub overflow_cast-result : goal.overflow_cast-result
overflow_cast-result c = low_fits _

pub returns-clause-is : goal.returns-clause-is
returns-clause-is c = search (low_some)

pub returns-clause-below : goal.returns-clause-below
returns-clause-below c = search (low_small)
