use Rattle.desk.proofs.Ordering.{try_no_board, try_full, try_refused, try_here}
use Rattle.desk.proofs.try_order.Goals as goal

pub returns-in_err-held : goal.returns-in_err-held
returns-in_err-held c = search (try_no_board, c.in_err-held.ensures)

pub returns-then-is_full : goal.returns-then-is_full
returns-then-is_full c = search (try_full, c.in_ok-held.ensures)

pub returns-in_err-try_place : goal.returns-in_err-try_place
returns-in_err-try_place c = search (try_refused, c.in_ok-held.ensures, c.in_err-try_place.ensures)

pub returns : goal.returns
returns c = search (try_here, c.in_ok-held.ensures, c.in_ok-try_place.ensures)
