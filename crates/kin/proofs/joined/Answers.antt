-- `joined` meets its contract.
-- Assumes nothing.
use Rattle.kin.proofs.Ways.{joined_put, joined_kept}
use Rattle.kin.proofs.joined.Goals as goal

pub returns-then-has : goal.returns-then-has
returns-then-has c = search (joined_put)

pub returns : goal.returns
returns c = search (joined_kept)
