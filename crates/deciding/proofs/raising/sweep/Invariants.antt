-- What the loop keeps.
use Rattle.deciding.specs.Raising.{SweepingIn}
use Rattle.deciding.proofs.raising.sweep.Given as goal

abbrev pub invariant-loop-a : goal.invariant-loop-a
invariant-loop-a l = SweepingIn l.net l.load l.due l.initial.time l.a l.time l.raised
