use Rattle.fields.proofs.CurveWriting.{form_counted, form_small}
use Rattle.fields.proofs.size.Goals as goal

pub returns : goal.returns
returns c = (search (form_counted), search (form_small))
