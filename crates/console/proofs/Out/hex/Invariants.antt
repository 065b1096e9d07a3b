-- What the loop keeps: the digits of the bytes so far were put.
use Rattle.std.proofs.Common.{take}
use Rattle.console.specs.Output.{Put}
use Rattle.console.specs.Page.{hex_of}
use Rattle.console.proofs.Out.hex.Given as goal

abbrev pub invariant-loop-byte : goal.invariant-loop-byte
invariant-loop-byte g l = Put g.W.Write.contents l.initial.self l.self (hex_of (take l.byte-index l.byte-items))
