-- What the loop keeps.
use mathlib.Core.Path.{◌≡◌}
use lib.ListN.{drop}
use Rattle.names.specs.Sheet.{from_line}
use Rattle.names.proofs.line_start.Given as goal

abbrev pub invariant-loop-at : goal.invariant-loop-at
invariant-loop-at l = from_line (drop l.at l.sheet) l.left ≡ from_line l.sheet l.fn.line
