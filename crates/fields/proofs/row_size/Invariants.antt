-- What the loop keeps.
use mathlib.Core.Path.{◌≡◌}
use Prim.Native.Nat.{◌≤◌, ◌*◌}
use lib.ListN.{length, take}
use Rattle.std.specs.List.{flat_map}
use Rattle.fields.proofs.row_size.Given as goal

abbrev pub invariant-loop-x : goal.invariant-loop-x
invariant-loop-x g l = (l.bytes ≡ length (flat_map g.T.Form.bytes (take l.x-index l.row))) × (l.bytes ≤ g.T.Form.most * l.x-index)
