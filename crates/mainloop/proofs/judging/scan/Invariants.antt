-- What the loop keeps.
use Rattle.mainloop.specs.Judging.{ScanningIn}
use Rattle.mainloop.proofs.judging.scan.Given as goal

abbrev pub invariant-loop-a : goal.invariant-loop-a
invariant-loop-a l = ScanningIn l.net l.work l.most l.a l.slack
