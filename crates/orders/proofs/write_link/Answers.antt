use Rattle.fields.proofs.WritingLaws.{then_wrote}
use Rattle.orders.proofs.write_link.Goals as goal

pub returns : goal.returns
returns c = search (then_wrote)
