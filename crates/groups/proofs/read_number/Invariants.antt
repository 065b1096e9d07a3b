-- What the loop keeps.
use mathlib.Core.Path.{◌≡◌}
use Prim.Native.Nat.{◌<◌, ◌≤◌, ◌*◌, ◌^◌}
use Rattle.groups.specs.Number.{limit, groups_from, number_at}
use Rattle.groups.proofs.read_number.Given as goal

abbrev pub invariant-loop-left : goal.invariant-loop-left
invariant-loop-left l = (groups_from l._left l.s l.at l.i l.scale l.sum ≡ number_at l.s l.at) × (l.sum < l.scale) × (l.scale * 128 ^ l._left ≤ limit)
