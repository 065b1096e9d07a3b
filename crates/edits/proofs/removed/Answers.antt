-- `edits::removed` meets its contract.
-- Assumes nothing.
use Rattle.std.proofs.Common.{rules}
use Rattle.edits.proofs.Moved.{put_out}
use Rattle.edits.proofs.removed.Goals as goal

pub returns : goal.returns
returns c = put_out _ (search rules) _ c.requires _ c.plain_link.ensures _ c.copy_from_slice.ensures.after
