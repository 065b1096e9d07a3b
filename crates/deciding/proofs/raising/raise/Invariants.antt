-- What the loop keeps, and its measure.
use Rattle.deciding.specs.Raising.{FollowingIn, left}
use Rattle.deciding.proofs.raising.raise.Given as goal

abbrev pub invariant-loop : goal.invariant-loop
invariant-loop l = FollowingIn l.net l.load l.due l.fn.time l.time

abbrev pub decreases-loop : goal.decreases-loop
decreases-loop l = left l.due l.time
