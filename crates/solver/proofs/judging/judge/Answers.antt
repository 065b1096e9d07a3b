use Rattle.solver.proofs.judging.Judging.{free_timely, on_loop}
use Rattle.solver.proofs.judging.judge.Goals as goal

pub judge_time-requires : goal.judge_time-requires
judge_time-requires c = search (free_timely)

pub returns-in-Some : goal.returns-in-Some
returns-in-Some c = search (on_loop)
