-- `answer_of` meets its contract.
-- Assumes nothing.
use Rattle.solver.proofs.Solving.{answers_settled, loads_fit_2, loads_fit_3, loads_fit, loads_few, answers_solves}
use Rattle.solver.proofs.answer_of.Goals as goal

pub budget_at-requires : goal.budget_at-requires
budget_at-requires c = search (answers_settled)

pub overflow_add-b : goal.overflow_add-b
overflow_add-b c = search (loads_fit_2)

pub overflow_add-b-2 : goal.overflow_add-b-2
overflow_add-b-2 c = search (loads_fit_3)

pub overflow_add-b-3 : goal.overflow_add-b-3
overflow_add-b-3 c = search (loads_fit)

pub flow_of-requires : goal.flow_of-requires
flow_of-requires c = search (loads_few)

pub returns : goal.returns
returns c = search (answers_solves)
