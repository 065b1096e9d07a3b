-- What the loop keeps, and its measure.
use mathlib.Core.Path.{◌≡◌}
use Rattle.groups.specs.Parse.{got}
use Rattle.fields.specs.Parse.{repeat}
use Rattle.fields.specs.CurveFile.{run_from}
use Rattle.fields.proofs.each_run.Given as goal

abbrev pub invariant-loop-i : goal.invariant-loop-i
invariant-loop-i l = repeat (run_from l.s) l.fn.c l.at l.i ≡ got l.so_far.value l.so_far.next
