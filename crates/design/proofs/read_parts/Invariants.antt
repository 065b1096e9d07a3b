-- What the loop keeps.
use mathlib.Core.Path.{◌≡◌}
use Rattle.groups.specs.Parse.{got}
use Rattle.fields.specs.Parse.{repeat}
use Rattle.board.specs.Tests.{blank_curves}
use Rattle.design.specs.Design.{in_place, part_from}
use Rattle.design.proofs.read_parts.Given as goal

abbrev pub invariant-loop-p : goal.invariant-loop-p
invariant-loop-p l = repeat (in_place (part_from l.s)) blank_curves l.at l.p ≡ got l.curve l.next
