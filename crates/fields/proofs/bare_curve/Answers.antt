use mathlib.Core.Path.{refl}
use Rattle.fields.specs.CurveFile.{bare}
use Rattle.fields.proofs.bare_curve.Goals as goal

pub returns : goal.returns
unfolding bare
returns c = refl
