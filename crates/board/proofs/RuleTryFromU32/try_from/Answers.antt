-- `board::Rule::try_from` meets its contract.
-- Assumes nothing.
use Rattle.board.proofs.Steps.{is_a, is_b, is_none}
use Rattle.board.proofs.RuleTryFromU32.try_from.Goals as goal

pub returns-in-0 : goal.returns-in-0
returns-in-0 c = search (is_a)

pub returns-in-1 : goal.returns-in-1
returns-in-1 c = search (is_b)

pub returns-in_default : goal.returns-in_default
returns-in_default c = search (is_none)
