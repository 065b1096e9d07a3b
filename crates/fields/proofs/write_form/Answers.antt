use Rattle.fields.proofs.CurveWriting.{curve_wrote}
use Rattle.fields.proofs.write_form.Goals as goal

pub returns : goal.returns
returns c = search curve_wrote
