use Rattle.desk.proofs.Ordering.{made_untried, made_formed, made_turned, made_sound}
use Rattle.desk.proofs.made.Goals as goal

pub returns-in_err-held : goal.returns-in_err-held
returns-in_err-held c = search (made_untried, c.in_err-held.ensures)

pub solve_formed-requires : goal.solve_formed-requires
solve_formed-requires c = search (made_formed, c.in_ok-held.ensures)

pub returns-in_err-budget : goal.returns-in_err-budget
returns-in_err-budget c = search (made_turned, c.in_ok-held.ensures, c.in_err-budget.ensures)

pub returns : goal.returns
returns c = search (made_sound, c.in_ok-held.ensures, c.in_ok-budget.ensures)
