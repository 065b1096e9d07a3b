-- The measure: the parts that may still be visited.
use Rattle.slow.proofs.+walk.Given as goal

abbrev pub decreases-walk : goal.decreases-walk
decreases-walk l = l.left
