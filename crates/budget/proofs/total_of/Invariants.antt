-- What the loop keeps.
use Rattle.budget.proofs.Making.{Summed}
use Rattle.budget.proofs.total_of.Given as goal

abbrev pub invariant-loop-p : goal.invariant-loop-p
invariant-loop-p l = Summed l.power l.sum l.p
