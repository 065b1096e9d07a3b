use mathlib.Core.Path.{sym}
use borrow.Author.Rules.{rules}
use Rattle.base.specs.Pick.{pick}
use Rattle.fields.proofs.Ways.{few, runs_stopped, runs_ended}
use Rattle.fields.proofs.read_runs.Goals as goal

pub each_run-requires : goal.each_run-requires
each_run-requires c = few _ _ _ c.args.from _ _ _ (sym c.in_ok-count.ensures) _ c.bare_curve-bare.ensures

pub returns-in_err-read : goal.returns-in_err-read
returns-in_err-read c =
    let stops = runs_stopped _ _ _ c.args.from _ _ _ (sym c.in_ok-count.ensures) _ c.bare_curve-bare.ensures _ (sym c.in_err-read.ensures) in
    rw stops (search rules)

pub returns-then-not-affords_savings : goal.returns-then-not-affords_savings
unfolding pick
returns-then-not-affords_savings c =
    let ends = runs_ended _ _ _ c.args.from _ _ _ (sym c.in_ok-count.ensures) _ c.bare_curve-bare.ensures _ _ _ (sym c.in_ok-read.ensures) c.affords_savings.ensures in
    rw (ends, c.if-not-affords_savings.true, c.at.ensures)

pub returns : goal.returns
unfolding pick
returns c =
    let ends = runs_ended _ _ _ c.args.from _ _ _ (sym c.in_ok-count.ensures) _ c.bare_curve-bare.ensures _ _ _ (sym c.in_ok-read.ensures) c.affords_savings.ensures in
    rw (ends, c.if-not-affords_savings.false)
