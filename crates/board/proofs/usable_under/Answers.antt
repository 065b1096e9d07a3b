-- `board::usable_under` meets its contract.
-- Assumes nothing.
use Rattle.board.proofs.Steps.{rule_a, rule_b}
use Rattle.board.proofs.usable_under.Goals as goal

pub returns-in-A : goal.returns-in-A
returns-in-A c = search (rule_a)

pub returns-in-B : goal.returns-in-B
returns-in-B c = search (rule_b)
