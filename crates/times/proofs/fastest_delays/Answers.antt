-- `times::fastest_delays` meets its contract.
-- Assumes nothing.
use Rattle.base.proofs.TableLaws.{all_table}
use Rattle.times.proofs.Loops.{fastest_none, fastest_more, fastest_done}
use Rattle.times.proofs.fastest_delays.Goals as goal

pub loop-k-init : goal.loop-k-init
loop-k-init c = search (fastest_none, all_table)

pub loop-k-preserved : goal.loop-k-preserved
loop-k-preserved c = search (fastest_more)

pub returns : goal.returns
returns c = search (fastest_done)
