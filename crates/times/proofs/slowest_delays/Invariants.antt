-- What the loop keeps.
use Rattle.times.specs.Times.{slowest_at}
use Rattle.board.specs.Board.{WellFormed}
use Rattle.curve.specs.Rows.{ticks_row}
use mathlib.Core.Path.{◌≡◌}
use Rattle.times.proofs.slowest_delays.Given as goal

abbrev pub invariant-loop-k : goal.invariant-loop-k
invariant-loop-k l = WellFormed l.b → l.d ≡ ticks_row l.k (slowest_at l.b)
