use Rattle.questions.specs.Tried.{PlaceSaid}
use Rattle.questions.proofs.Answering.{turned, place_given, place_past}
use Rattle.questions.proofs.place_on.Goals as goal

pub returns-in_err-held-clause-said : goal.returns-in_err-held-clause-said
unfolding PlaceSaid
returns-in_err-held-clause-said c = search (turned, c.in_err-held.ensures)

pub returns-then-part-ge64-clause-said : goal.returns-then-part-ge64-clause-said
returns-then-part-ge64-clause-said c = search (place_past, c.in_ok-held.ensures)

pub returns-clause-said : goal.returns-clause-said
returns-clause-said c = search (place_given, c.in_ok-held.ensures)
