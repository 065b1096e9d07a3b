-- What the loop keeps.
use Rattle.solver.specs.Wiring.{LaidIn, link_span}
use Rattle.solver.proofs.wiring.lay_links.Given as goal

abbrev pub invariant-loop-l : goal.invariant-loop-l
invariant-loop-l l = LaidIn l.b.parts l.l (link_span l.b) l.initial.net l.net
