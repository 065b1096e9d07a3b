-- What the loop keeps.
use Rattle.budget.proofs.Making.{Drawn}
use Rattle.budget.proofs.powers.Given as goal

abbrev pub invariant-loop-k : goal.invariant-loop-k
invariant-loop-k l = Drawn l.b l.delay l.w l.k
