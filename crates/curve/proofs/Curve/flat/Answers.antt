-- `curve::Curve::flat` meets its contract.
-- Assumes nothing.
use mathlib.Core.Path.{refl}
use Rattle.curve.specs.Answers.{flat_of}
use Rattle.curve.proofs.Curve.flat.Goals as goal

pub returns : goal.returns
unfolding flat_of
returns c = refl
