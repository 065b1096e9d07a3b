-- `asking::ends_at` meets its contract.
-- Assumes nothing.
use mathlib.Core.Path.{refl}
use Rattle.deciding.specs.Asking.{ends_in}
use Rattle.deciding.proofs.asking.ends_at.Goals as goal

pub returns : goal.returns
unfolding ends_in
returns c = refl
