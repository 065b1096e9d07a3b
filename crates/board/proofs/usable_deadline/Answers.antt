-- `board::usable_deadline` meets its contract.
-- Assumes nothing.
use Rattle.board.proofs.Steps.{under_rule_lem}
use Rattle.board.proofs.usable_deadline.Goals as goal

pub returns : goal.returns
returns c = search (under_rule_lem)
