-- What the loop keeps.
use mathlib.Core.Path.{◌≡◌}
use Rattle.kin.specs.Steps.{gathered_up_to}
use Rattle.kin.proofs.gathered.Given as goal

abbrev pub invariant-loop-k : goal.invariant-loop-k
invariant-loop-k l = l.s ≡ gathered_up_to l.rows l.seen l.set l.k
