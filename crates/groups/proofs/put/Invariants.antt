-- What the loop keeps, and its measure.
use mathlib.Core.Path.{◌≡◌}
use Prim.Native.Nat.{◌<◌, ◌+◌}
use lib.ListN.{length}
use lib.Seq.{sets}
use Rattle.groups.specs.Number.{limit, encode}
use Rattle.groups.proofs.put.Given as goal

abbrev pub invariant-loop-rest : goal.invariant-loop-rest
invariant-loop-rest l = (sets l.buf l.next (encode l.rest) ≡ sets l.initial.buf l.at (encode l.n)) × (l.next + length (encode l.rest) ≡ l.at + length (encode l.n)) × (l.rest < limit) × (length l.buf ≡ length l.initial.buf)

abbrev pub decreases-loop-rest : goal.decreases-loop-rest
decreases-loop-rest l = l.rest
