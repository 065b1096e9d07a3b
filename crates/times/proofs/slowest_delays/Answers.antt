-- `times::slowest_delays` meets its contract.
-- Assumes nothing.
use Rattle.base.proofs.TableLaws.{all_table}
use Rattle.times.proofs.Loops.{slowest_none, slowest_more, slowest_done}
use Rattle.times.proofs.slowest_delays.Goals as goal

pub loop-k-init : goal.loop-k-init
loop-k-init c = λ _. search (slowest_none, all_table)

pub loop-k-preserved : goal.loop-k-preserved
loop-k-preserved c = search (slowest_more)

pub returns : goal.returns
returns c = search (slowest_done)
