-- `board::curves_good` meets its contract. The loop: the places gone by passed the test.
-- Assumes nothing.
use Rattle.curve.proofs.GoodLaws.{every_none}
use Rattle.board.proofs.Steps.{one_curve, curve_fails, all_curves}
use Rattle.board.proofs.curves_good.Goals as goal

pub loop-p-init : goal.loop-p-init
loop-p-init c = every_none _

pub returns-then-not-curve_good : goal.returns-then-not-curve_good
returns-then-not-curve_good c = search (curve_fails)

pub loop-p-preserved : goal.loop-p-preserved
loop-p-preserved c = search (one_curve)

pub returns : goal.returns
returns c = search (all_curves)
