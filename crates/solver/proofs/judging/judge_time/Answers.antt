use Rattle.solver.proofs.judging.Judging.{in_time, too_slow}
use Rattle.solver.proofs.judging.judge_time.Goals as goal

pub returns-in_default : goal.returns-in_default
returns-in_default c = search (in_time)

pub returns : goal.returns
returns c = search (too_slow)
