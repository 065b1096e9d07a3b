-- `curve::Curve::power_at` meets its contract. The loop: after k runs, the ticks beyond them are left, and the others are saved.
-- Assumes nothing.
use Rattle.std.proofs.Common.{◌≤◌}
use Rattle.curve.proofs.Ways.{slowed_none, slowed_more, below_fastest, past_slowest, on_curve}
use Rattle.curve.proofs.Orders.{lt_from, le_from_not_lt}
use Rattle.curve.proofs.Curve.power_at.Goals as goal

pub returns-then-lt : goal.returns-then-lt
returns-then-lt c = search (below_fastest, lt_from)

pub loop-k-init : goal.loop-k-init
loop-k-init c = slowed_none _ _

pub loop-k-preserved : goal.loop-k-preserved
loop-k-preserved c = search (slowed_more)

pub returns-then-slowing-gt0 : goal.returns-then-slowing-gt0
returns-then-slowing-gt0 c =
    let from : c.args.self.fastest.0 ≤ c.args.delay.0 = le_from_not_lt _ _ _ c.lt.ensures c.if-lt.false in
    search (past_slowest)

pub returns : goal.returns
returns c =
    let from : c.args.self.fastest.0 ≤ c.args.delay.0 = le_from_not_lt _ _ _ c.lt.ensures c.if-lt.false in
    search (on_curve)
