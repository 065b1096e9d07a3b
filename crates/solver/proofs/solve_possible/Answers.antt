-- `solve_possible` meets its contract.
-- Assumes nothing.
use Rattle.solver.proofs.Solving.{so_prepared, so_answers}
use Rattle.solver.proofs.solve_possible.Goals as goal

pub find-requires : goal.find-requires
find-requires c = search (so_prepared)

pub answer_of-requires : goal.answer_of-requires
answer_of-requires c = search (so_answers)
