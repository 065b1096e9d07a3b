-- `edits::inserted` meets its contract.
-- Assumes nothing.
use Rattle.std.proofs.Common.{rules}
use Rattle.edits.proofs.Moved.{put_in}
use Rattle.edits.proofs.inserted.Goals as goal

pub returns : goal.returns
returns c = put_in _ (search rules) _ c.requires _ _ c.copy_from_slice.ensures.after
