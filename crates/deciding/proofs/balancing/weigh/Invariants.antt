-- What the loop keeps.
use Rattle.deciding.specs.Balancing.{Weighing}
use Rattle.deciding.proofs.balancing.weigh.Given as goal

abbrev pub invariant-loop-a : goal.invariant-loop-a
invariant-loop-a l = Weighing l.net l.load l.a l.sum
