-- What the loop keeps.
use Rattle.solver.specs.Wiring.{LaidIn, exit_span}
use Rattle.solver.proofs.wiring.lay_exits.Given as goal

abbrev pub invariant-loop-p : goal.invariant-loop-p
invariant-loop-p l = LaidIn l.first l.p exit_span l.initial.net l.net
