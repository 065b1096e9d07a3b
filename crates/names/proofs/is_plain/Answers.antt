use Rattle.base.specs.Pick.{pick}
use Rattle.base.proofs.Tests.{tests}
use Rattle.names.specs.Sheet.{plain}
use Rattle.names.proofs.is_plain.Goals as goal

pub returns-then-byte-ge33 : goal.returns-then-byte-ge33
unfolding plain pick
returns-then-byte-ge33 c = search tests

pub returns-else-byte-ge33 : goal.returns-else-byte-ge33
unfolding plain pick
returns-else-byte-ge33 c = search tests
