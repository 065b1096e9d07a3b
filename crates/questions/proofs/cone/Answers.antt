use Rattle.questions.proofs.Answering.{cone_given}
use Rattle.questions.proofs.cone.Goals as goal

pub returns : goal.returns
returns g c = search (cone_given, c.in_ok-held.ensures)
