-- `insert` meets its contract.
-- Assumes nothing.
use Rattle.marks.proofs.Ways.{put}
use Rattle.marks.proofs.insert.Goals as goal

pub returns : goal.returns
returns c = search (put)
