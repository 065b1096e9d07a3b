-- `curve::Run::is_blank` meets its contract.
-- Assumes nothing.
use Rattle.base.specs.Pick.{pick}
use Rattle.base.proofs.Tests.{tests}
use Rattle.curve.specs.Tests.{blankb}
use Rattle.curve.proofs.Run.is_blank.Goals as goal

pub returns-then-self-eq0 : goal.returns-then-self-eq0
unfolding blankb pick
returns-then-self-eq0 c = search tests

pub returns-else-self-eq0 : goal.returns-else-self-eq0
unfolding blankb pick
returns-else-self-eq0 c = search tests
