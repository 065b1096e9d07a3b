-- What the loop keeps.
use Rattle.deciding.proofs.asking.Asking.{Counted}
use Rattle.deciding.proofs.asking.above.Given as goal

abbrev pub invariant-loop-i : goal.invariant-loop-i
invariant-loop-i l = Counted l.net l.a l.x l.i l.n
