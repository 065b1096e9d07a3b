-- `slow::Trail::pushed` meets its contract.
-- Assumes nothing.
use Rattle.slow.specs.Walk.{pushed_of}
use Rattle.base.proofs.Tests.{tests}
use Rattle.base.specs.Pick.{pick}
use Rattle.slow.proofs.Trail.pushed.Goals as goal

pub returns-then-at-ge64 : goal.returns-then-at-ge64
unfolding pushed_of pick
returns-then-at-ge64 c = search tests

pub returns : goal.returns
unfolding pushed_of pick
returns c = search tests
