-- `board::rule_of` meets its contract.
-- Assumes nothing.
use Rattle.board.proofs.Steps.{of_a, of_b}
use Rattle.board.proofs.rule_of.Goals as goal

pub returns-then-number-eq0 : goal.returns-then-number-eq0
returns-then-number-eq0 c = search (of_a)

pub returns-else-number-eq0 : goal.returns-else-number-eq0
returns-else-number-eq0 c = search (of_b)
