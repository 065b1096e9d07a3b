-- What the loop keeps, and its measure.
use Rattle.mainloop.specs.Pushing.{CarriedIn}
use Rattle.theory.specs.Sum.{cells}
use Rattle.mainloop.proofs.pushing.push.Given as goal

abbrev pub invariant-loop-v : goal.invariant-loop-v
invariant-loop-v l = CarriedIn l.net l.initial.work l.d l.work l.v

abbrev pub decreases-loop-v : goal.decreases-loop-v
decreases-loop-v l = cells l.initial.work.rank l.v
