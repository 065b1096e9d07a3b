-- `reading::nodes_from` meets its contract.
-- Assumes nothing.
use Rattle.base.proofs.TableLaws.{all_table}
use Rattle.solver.proofs.reading.Reading.{nodes_none, nodes_more, nodes_done}
use Rattle.solver.proofs.reading.nodes_from.Goals as goal

pub loop-k-init : goal.loop-k-init
loop-k-init c = search (nodes_none, all_table)

pub loop-k-preserved : goal.loop-k-preserved
loop-k-preserved c = search (nodes_more)

pub returns : goal.returns
returns c = search (nodes_done)
