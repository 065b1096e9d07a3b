-- What the loop keeps.
use mathlib.Core.Path.{◌≡◌}
use Rattle.curve.specs.Rows.{ticks_row}
use Rattle.board.specs.Board.{view}
use Rattle.times.proofs.fastest_delays.Given as goal

abbrev pub invariant-loop-k : goal.invariant-loop-k
invariant-loop-k l = l.d ≡ ticks_row l.k (view l.b).fastest
