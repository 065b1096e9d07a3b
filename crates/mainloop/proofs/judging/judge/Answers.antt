-- `judging::judge` meets its contract.
-- Assumes nothing.
use Rattle.mainloop.proofs.judging.Judging.{judge_none, judge_both}
use Rattle.mainloop.proofs.judging.judge.Goals as goal

pub returns-in-0-eq0 : goal.returns-in-0-eq0
returns-in-0-eq0 c = search (judge_none)

pub returns-in_default : goal.returns-in_default
returns-in_default c = search (judge_both)
