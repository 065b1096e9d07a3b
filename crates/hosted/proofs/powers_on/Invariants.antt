-- What the loop keeps, and its measure.
use mathlib.Core.Path.{◌≡◌}
use Prim.Native.Nat.{◌*◌, ◌≤◌}
use Rattle.hosted.specs.Hosted.{powers_to}
use Rattle.hosted.proofs.powers_on.Given as goal

abbrev pub invariant-loop-k : goal.invariant-loop-k
invariant-loop-k l = (l.k ≤ l.delays) × (l.sum ≤ l.k * 4294967295) × (l.sum ≡ powers_to l.c l.k)
