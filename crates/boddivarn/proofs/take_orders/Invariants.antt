-- Each order takes a byte or more; and what is left of the orders.
use Rattle.std.proofs.Common.{length, ◌-◌, ◌≤◌}
use Rattle.boddivarn.proofs.take_orders.Given as goal

abbrev pub invariant-loop-at : goal.invariant-loop-at
invariant-loop-at l = l.count ≤ l.at

abbrev pub decreases-loop-at : goal.decreases-loop-at
decreases-loop-at l = length l.initial.orders - l.at
