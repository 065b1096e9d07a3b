-- What the loop keeps.
use Rattle.mainloop.specs.Lowering.{Shifted}
use Rattle.mainloop.proofs.lowering.shift.Given as goal

abbrev pub invariant-loop-v : goal.invariant-loop-v
invariant-loop-v l = Shifted l.room l.d l.v l.initial.time l.time
