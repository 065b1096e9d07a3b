-- `solver::solve` meets its contract.
-- Assumes nothing.
use Rattle.solver.proofs.Solving.{not_formed, is_formed}
use Rattle.solver.proofs.solve.Goals as goal

pub returns-then-not-well_formed : goal.returns-then-not-well_formed
returns-then-not-well_formed c = search (not_formed)

pub solve_formed-requires : goal.solve_formed-requires
solve_formed-requires c = search (is_formed)
