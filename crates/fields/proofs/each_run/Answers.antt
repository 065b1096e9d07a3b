use mathlib.Core.Path.{sym}
use borrow.Author.Rules.{rules}
use Rattle.fields.specs.CurveFile.{run_from}
use Rattle.fields.proofs.ParseLaws.{repeat_fault}
use Rattle.fields.proofs.each_run.Goals as goal

pub returns-in_err-so_far : goal.returns-in_err-so_far
returns-in_err-so_far c =
    let stops = repeat_fault (run_from c.args.s.now) c.args.c c.args.at c.loop-i.i c.args.c.count _ _ _ c.loop-i.invariant (sym c.in_err-so_far.ensures) (search rules) in
    rw stops (search rules)
