use Rattle.fields.proofs.WritingLaws.{both_wrote}
use Rattle.fields.proofs.put_pair.Goals as goal

pub returns : goal.returns
returns c = search both_wrote
