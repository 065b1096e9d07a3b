-- What the loop keeps, and its measure.
use lib.ListN.{length}
use Rattle.hosted.proofs.Ways.{SoFar}
use Rattle.hosted.proofs.after_orders.Given as goal

abbrev pub invariant-loop-rest : goal.invariant-loop-rest
invariant-loop-rest l = SoFar l.orders l.initial.desk l.desk l.t l.rest

abbrev pub decreases-loop-rest : goal.decreases-loop-rest
decreases-loop-rest l = length l.rest
