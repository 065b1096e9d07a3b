-- `console::Out::hex` meets its contract.
-- Assumes nothing.
use Rattle.console.specs.Page.{hex_of}
use Rattle.console.proofs.OutputLaws.{put_none, hex_more}
use Rattle.console.proofs.Out.hex.Goals as goal

pub loop-byte-init : goal.loop-byte-init
unfolding hex_of
loop-byte-init g c = search (put_none)

pub loop-byte-preserved : goal.loop-byte-preserved
loop-byte-preserved g c = search (hex_more)
