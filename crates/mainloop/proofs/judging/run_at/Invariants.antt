-- What the loop keeps.
use Rattle.nets.specs.Network.{length_at}
use Rattle.theory.specs.Sum.{sum}
use mathlib.Core.Path.{◌≡◌}
use Prim.Native.Nat.{◌≤◌}
use Rattle.mainloop.proofs.judging.run_at.Given as goal

abbrev pub invariant-loop-i : goal.invariant-loop-i
invariant-loop-i l = (l.begin ≡ sum l.i (length_at l.net.length l.a)) × (l.begin ≤ l.j)
