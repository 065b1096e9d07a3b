-- What the loop keeps.
use Rattle.std.proofs.Common.{◌≡◌}
use Rattle.solver.specs.Reading.{nodes_from}
use Rattle.solver.proofs.reading.nodes_from.Given as goal

abbrev pub invariant-loop-k : goal.invariant-loop-k
invariant-loop-k l = l.times ≡ nodes_from l.time l.first l.k
