-- `crashing::crash` meets its contract.
-- Assumes nothing.
use Rattle.mainloop.proofs.crashing.Turning.{run_state, run_more, run_ends, turned_state}
use borrow.Author.Rules.{rules}
use Rattle.mainloop.proofs.crashing.crash.Goals as goal

pub loop-work-init : goal.loop-work-init
loop-work-init c = (search (run_state), search rules)

pub loop-work-preserved : goal.loop-work-preserved
loop-work-preserved c = (search (turned_state), search (run_more))

pub returns : goal.returns
returns c = search (run_ends)
