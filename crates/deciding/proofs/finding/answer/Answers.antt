-- `finding::answer` meets its contract.
-- Assumes nothing.
use Rattle.deciding.proofs.finding.Finding.{answer_no, answer_decides}
use Rattle.deciding.proofs.finding.answer.Goals as goal

pub returns-then-not-balanced : goal.returns-then-not-balanced
returns-then-not-balanced c = search (answer_no, c.if-not-balanced.ensures)

pub returns : goal.returns
returns c = search (answer_decides, c.if-not-balanced.ensures)
