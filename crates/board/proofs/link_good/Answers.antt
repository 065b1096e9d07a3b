-- `board::link_good` meets its contract.
-- Assumes nothing.
use Rattle.board.proofs.TestLaws.{link_held_is, link_blank_is}
use Rattle.board.proofs.link_good.Goals as goal

pub returns-then-l-links : goal.returns-then-l-links
returns-then-l-links c = search (link_held_is)

pub returns : goal.returns
returns c = search (link_blank_is)
