use mathlib.Core.Path.{sym}
use borrow.Author.Rules.{rules}
use Rattle.board.specs.Tests.{blank_curves}
use Rattle.fields.specs.Parse.{repeat}
use Rattle.design.specs.Design.{part_from, parts_from}
use Rattle.design.proofs.Rows.{row_on, row_fault, row_ended}
use Rattle.design.proofs.read_parts.Goals as goal

pub loop-p-init : goal.loop-p-init
unfolding repeat
loop-p-init c = rw c.no_curves-curve.ensures

pub returns-in_err-read : goal.returns-in_err-read
unfolding parts_from part_from
returns-in_err-read c =
    let stops = row_fault (part_from c.args.s.now) blank_curves c.args.at c.loop-p.p _ _ c.loop-p.invariant _ c.args.parts (sym c.in_err-read.ensures) (search rules) in
    rw stops (search rules)

pub loop-p-preserved : goal.loop-p-preserved
unfolding part_from
loop-p-preserved c = row_on (part_from c.args.s.now) blank_curves c.args.at c.loop-p.p _ _ c.loop-p.invariant _ _ (sym c.in_ok-read.ensures)

pub returns : goal.returns
unfolding parts_from
returns c = sym (row_ended (part_from c.args.s.now) blank_curves c.args.at c.loop-p.p _ _ c.loop-p.invariant c.args.parts (search rules) (search rules))
