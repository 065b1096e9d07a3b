use Rattle.questions.proofs.Answering.{power_wide}
use Rattle.questions.proofs.power_on.Goals as goal

pub returns-in_default : goal.returns-in_default
returns-in_default c = search (power_wide, c.in_default.ensures)
