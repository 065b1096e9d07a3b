use Rattle.fields.proofs.WritingLaws.{forms_wrote}
use Rattle.fields.proofs.write_row.Goals as goal

pub loop-x-preserved : goal.loop-x-preserved
loop-x-preserved g c = search forms_wrote
