use Rattle.fields.proofs.WritingLaws.{wrote_form}
use Rattle.fields.proofs.put.Goals as goal

pub returns : goal.returns
returns c = search (wrote_form)
