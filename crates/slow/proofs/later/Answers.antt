-- `slow::later` meets its contract.
-- Assumes nothing.
use Rattle.base.proofs.Tests.{tests}
use Rattle.base.specs.Pick.{pick}
use Rattle.slow.proofs.later.Goals as goal

pub returns-then-first-second : goal.returns-then-first-second
unfolding pick
returns-then-first-second c = search tests

pub returns-else-first-second : goal.returns-else-first-second
unfolding pick
returns-else-first-second c = search tests
