-- What the loop keeps.
use Rattle.solver.specs.Wiring.{LaidIn, part_span}
use Rattle.solver.proofs.wiring.lay_parts.Given as goal

abbrev pub invariant-loop-p : goal.invariant-loop-p
invariant-loop-p l = LaidIn 0 l.p (part_span l.b) l.initial.net l.net
