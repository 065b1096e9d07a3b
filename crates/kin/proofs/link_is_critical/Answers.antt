-- `kin::link_is_critical` meets its contract.
-- Assumes nothing.
use Rattle.kin.proofs.Ways.{no_such_link, such_link}
use Rattle.kin.proofs.link_is_critical.Goals as goal

pub returns-then-n-l : goal.returns-then-n-l
returns-then-n-l c = search (no_such_link)

pub returns : goal.returns
returns c = search (such_link)
