use Rattle.solver.proofs.Solving.{verdict_solvable}
use Rattle.solver.proofs.solve_formed.Goals as goal

pub solve_possible-requires : goal.solve_possible-requires
solve_possible-requires c = search (verdict_solvable, c.in_ok-judge.ensures)
