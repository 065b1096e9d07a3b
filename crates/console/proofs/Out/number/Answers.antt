-- `console::Out::number` meets its contract.
-- Assumes nothing.
use Rattle.console.proofs.OutputLaws.{number_put}
use Rattle.console.proofs.Out.number.Goals as goal

pub returns : goal.returns
returns g c = search (number_put)
