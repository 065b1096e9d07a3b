-- The two steps meet their contracts. At each call the unmarked parts, counted over both sets, fall.
-- Assumes nothing.
use Rattle.kin.proofs.Turns.{child_falls, child_stops, child_goes, parent_falls, parent_stops, parent_goes}
use Rattle.kin.proofs.+child_step_parent_step.Goals as goal

pub child_step-returns-then-next-children : goal.child_step-returns-then-next-children
child_step-returns-then-next-children t c = search (child_stops)

pub child_step-parent_step-requires : goal.child_step-parent_step-requires
child_step-parent_step-requires t c = search (child_falls)

pub child_step-returns : goal.child_step-returns
child_step-returns t c = search (child_goes)

pub parent_step-returns-then-next-parents : goal.parent_step-returns-then-next-parents
parent_step-returns-then-next-parents t c = search (parent_stops)

pub parent_step-child_step-requires : goal.parent_step-child_step-requires
parent_step-child_step-requires t c = search (parent_falls)

pub parent_step-returns : goal.parent_step-returns
parent_step-returns t c = search (parent_goes)
