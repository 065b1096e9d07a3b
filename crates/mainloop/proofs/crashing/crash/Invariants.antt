-- What the loop keeps, and its measure.
use Rattle.mainloop.specs.Crashing.{StateIn, RunningIn, left_in}
use Rattle.mainloop.proofs.crashing.crash.Given as goal

abbrev pub invariant-loop-work : goal.invariant-loop-work
invariant-loop-work l = StateIn l.net l.work l.count × RunningIn l.net l.due l.initial.work l.work

abbrev pub decreases-loop-work : goal.decreases-loop-work
decreases-loop-work l = left_in l.net l.work l.count
