-- `edits::with_deadline` meets its contract.
-- Assumes nothing.
use mathlib.Core.Path.{refl}
use Rattle.edits.specs.Edits.{with_deadline_of}
use Rattle.edits.proofs.with_deadline.Goals as goal

pub returns : goal.returns
unfolding with_deadline_of
returns c = refl
