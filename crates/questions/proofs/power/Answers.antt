use Rattle.questions.specs.Numbers.{PowerSaid}
use Rattle.questions.proofs.Answering.{off_place, power_given}
use Rattle.questions.proofs.power.Goals as goal

pub returns-in_err-held : goal.returns-in_err-held
unfolding PowerSaid
returns-in_err-held c = search (off_place, c.in_err-held.ensures)

pub returns : goal.returns
returns c = search (power_given, c.in_ok-held.ensures)
