use Rattle.desk.proofs.Ordering.{not_held, not_formed, formed_held}
use Rattle.desk.proofs.judgeable.Goals as goal

pub returns-in_err-held : goal.returns-in_err-held
returns-in_err-held c = search (not_held, c.in_err-held.ensures)

pub returns-then-not-well_formed : goal.returns-then-not-well_formed
returns-then-not-well_formed c = search (not_formed, c.in_ok-held.ensures)

pub returns : goal.returns
returns c = search (formed_held, c.in_ok-held.ensures)
