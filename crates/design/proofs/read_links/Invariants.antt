-- What the loop keeps.
use mathlib.Core.Path.{◌≡◌}
use lib.ListN.{length}
use Rattle.groups.specs.Parse.{got}
use Rattle.fields.specs.Parse.{repeat}
use Rattle.board.specs.Tests.{blank_links}
use Rattle.design.specs.Design.{in_place, before_of, link_in}
use Rattle.design.proofs.read_links.Given as goal

abbrev pub invariant-loop-l : goal.invariant-loop-l
invariant-loop-l l = (repeat (in_place (link_in l.s l.parts)) blank_links l.at l.l ≡ got l.link l.next) × (l.before ≡ before_of l.l l.link) × (length l.link ≡ 256)
