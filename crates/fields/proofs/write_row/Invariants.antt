-- What the loop keeps.
use lib.ListN.{take}
use Rattle.std.specs.List.{flat_map}
use Rattle.fields.specs.Writing.{WroteIfRoom}
use Rattle.fields.proofs.write_row.Given as goal

abbrev pub invariant-loop-x : goal.invariant-loop-x
invariant-loop-x g l = WroteIfRoom l.initial.buf l.at (flat_map g.T.Form.bytes (take l.x-index l.row)) l.next l.buf
