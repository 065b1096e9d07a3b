-- What the loop keeps.
use Rattle.deciding.specs.Raising.{FollowingIn}
use Rattle.deciding.proofs.raising.follow.Given as goal

abbrev pub invariant-loop-a : goal.invariant-loop-a
invariant-loop-a l = FollowingIn l.net l.load l.due l.initial.time l.time
