-- What was found so far.
use Rattle.hosted.specs.Hosted.{LastOf}
use Rattle.hosted.proofs.last_of.Given as goal

abbrev pub invariant-loop-k : goal.invariant-loop-k
invariant-loop-k g l = LastOf (λ r. goal.F-post g l.ask r) l._k l.last
