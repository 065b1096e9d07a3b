use Rattle.questions.specs.Sets.{FamilySaid}
use Rattle.questions.proofs.Answering.{turned, family_given}
use Rattle.questions.proofs.family.Goals as goal

pub returns-in_err-held : goal.returns-in_err-held
unfolding FamilySaid
returns-in_err-held c = search (turned, c.in_err-held.ensures)

pub returns : goal.returns
returns c = search (family_given, c.in_ok-held.ensures)
