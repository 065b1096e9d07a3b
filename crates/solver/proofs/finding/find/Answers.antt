-- `finding::find` meets its contract.
-- Assumes nothing.
use Rattle.solver.proofs.finding.Finding.{laid_fair, found_taken, late_prepared, found_late}
use Rattle.solver.proofs.finding.find.Goals as goal

pub answer-requires : goal.answer-requires
answer-requires c = search (laid_fair)

pub returns-then-answer : goal.returns-then-answer
returns-then-answer c = search (found_taken)

pub from_late-requires : goal.from_late-requires
from_late-requires c = search (late_prepared)

pub returns : goal.returns
returns c = search (found_late)
