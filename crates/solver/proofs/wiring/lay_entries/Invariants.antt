-- What the loop keeps.
use Rattle.solver.specs.Wiring.{LaidIn, entry_span}
use Rattle.solver.proofs.wiring.lay_entries.Given as goal

abbrev pub invariant-loop-p : goal.invariant-loop-p
invariant-loop-p l = LaidIn l.first l.p entry_span l.initial.net l.net
