-- `console::Out::text` meets its contract.
-- Assumes nothing.
use Rattle.console.proofs.OutputLaws.{put_none, text_more}
use Rattle.console.proofs.Out.text.Goals as goal

pub loop-byte-init : goal.loop-byte-init
loop-byte-init g c = search (put_none)

pub loop-byte-preserved : goal.loop-byte-preserved
loop-byte-preserved g c = search (text_more)
