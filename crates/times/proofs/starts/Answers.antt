-- `times::starts` meets its contract. The loop: the starts by the links gone by.
-- Assumes nothing.
use Rattle.base.proofs.TableLaws.{all_table}
use Rattle.times.proofs.Loops.{starts_none, starts_more, starts_done}
use Rattle.times.proofs.starts.Goals as goal

pub loop-l-init : goal.loop-l-init
loop-l-init c = search (starts_none, all_table)

pub loop-l-preserved : goal.loop-l-preserved
loop-l-preserved c = search (starts_more)

pub returns : goal.returns
returns c = search (starts_done)
