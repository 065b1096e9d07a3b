use Rattle.fields.proofs.CurveWriting.{limit_form}
use Rattle.fields.proofs.narrow.Goals as goal

pub returns : goal.returns
returns c = limit_form _ _ c.min.ensures
