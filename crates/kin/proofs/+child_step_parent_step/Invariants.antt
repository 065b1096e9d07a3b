-- The measure: the unmarked parts, counted over both sets.
use Rattle.kin.specs.Steps.{unmarked}
use Rattle.kin.proofs.+child_step_parent_step.Given as goal

abbrev pub decreases-child_step : goal.decreases-child_step
decreases-child_step l = unmarked l.parents l.children

abbrev pub decreases-parent_step : goal.decreases-parent_step
decreases-parent_step l = unmarked l.parents l.children
