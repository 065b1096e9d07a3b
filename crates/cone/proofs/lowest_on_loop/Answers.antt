-- `cone::lowest_on_loop` meets its contract.
-- Assumes nothing.
use Rattle.std.proofs.Common.{rules}
use Rattle.curve.proofs.Ways.{room_of}
use Rattle.cone.proofs.Loops.{said, ranks_free}
use Rattle.cone.proofs.lowest_on_loop.Goals as goal

pub returns-then-rises : goal.returns-then-rises
returns-then-rises c = ranks_free _ _ _ _ (search rules) (search (room_of)) c.rises.ensures (search rules)

pub returns : goal.returns
returns c = search (said)
