-- What the loop keeps.
use mathlib.Core.Path.{◌≡◌}
use mathlib.Core.Bool.{true}
use Prim.Native.Nat.{◌-◌}
use Rattle.curve.specs.Tests.{every}
use Rattle.board.specs.Board.{link_at}
use Rattle.board.specs.Tests.{link_test}
use Rattle.board.proofs.links_good.Given as goal

abbrev pub invariant-loop-l : goal.invariant-loop-l
invariant-loop-l l = (every l.l (link_test l.b) ≡ true) × (l.before ≡ link_at l.b (l.l - 1))
