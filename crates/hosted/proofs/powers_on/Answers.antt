-- `powers_on` meets its contract.
-- Assumes nothing.
use Rattle.hosted.proofs.Ways.{no_powers, more_powers, all_powers}
use borrow.Author.Rules.{rules}
use Rattle.hosted.proofs.powers_on.Goals as goal

pub loop-k-init : goal.loop-k-init
loop-k-init c = (search rules, search rules, no_powers _)

pub loop-k-preserved : goal.loop-k-preserved
loop-k-preserved c = (search rules, search rules, search (more_powers))

pub returns : goal.returns
returns c = search (all_powers)
