-- What the loop keeps.
use mathlib.Core.Path.{◌≡◌}
use Rattle.edits.specs.Edits.{count_before}
use Rattle.edits.proofs.place_of.Given as goal

abbrev pub invariant-loop-l : goal.invariant-loop-l
invariant-loop-l l = l.place ≡ count_before l.b l.x l.l
