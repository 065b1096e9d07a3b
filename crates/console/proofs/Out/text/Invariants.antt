-- What the loop keeps: the bytes so far were put.
use Rattle.std.proofs.Common.{take}
use Rattle.console.specs.Output.{Put}
use Rattle.console.proofs.Out.text.Given as goal

abbrev pub invariant-loop-byte : goal.invariant-loop-byte
invariant-loop-byte g l = Put g.W.Write.contents l.initial.self l.self (take l.byte-index l.word)
