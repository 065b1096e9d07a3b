use Rattle.questions.specs.Numbers.{PartSaid}
use Rattle.questions.proofs.Answering.{off_place, part_given}
use Rattle.questions.proofs.part.Goals as goal

pub returns-in_err-held : goal.returns-in_err-held
unfolding PartSaid
returns-in_err-held c = search (off_place, c.in_err-held.ensures)

pub returns : goal.returns
returns c = search (part_given, c.in_ok-held.ensures)
