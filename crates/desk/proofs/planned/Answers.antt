use Rattle.desk.proofs.Judging.{plan_unruled, plan_unread, plan_formed, plan_turned, plan_sound}
use Rattle.desk.proofs.planned.Goals as goal

pub returns-in_err-named : goal.returns-in_err-named
returns-in_err-named c = search (plan_unruled, c.in_err-named.ensures)

pub returns-in_err-board : goal.returns-in_err-board
returns-in_err-board c = search (plan_unread, c.in_ok-named.ensures, c.in_err-board.ensures)

pub solve_formed-requires : goal.solve_formed-requires
solve_formed-requires c = search (plan_formed, c.in_ok-named.ensures, c.in_ok-board.ensures)

pub returns-in_err-budget : goal.returns-in_err-budget
returns-in_err-budget c = search (plan_turned, c.in_ok-named.ensures, c.in_ok-board.ensures, c.in_err-budget.ensures)

pub returns : goal.returns
returns c = search (plan_sound, c.in_ok-named.ensures, c.in_ok-board.ensures, c.in_ok-budget.ensures)
