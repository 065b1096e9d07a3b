-- `finding::from_late` meets its contract.
-- Assumes nothing.
use Rattle.deciding.proofs.finding.Finding.{begin_good, late_proves}
use Rattle.deciding.proofs.finding.from_late.Goals as goal

pub crash-requires-clause-good_in : goal.crash-requires-clause-good_in
crash-requires-clause-good_in c = search (begin_good, c.fill.ensures.after (λ y e. e))

pub returns : goal.returns
returns c = search (late_proves)
