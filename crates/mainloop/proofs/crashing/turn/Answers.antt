-- `crashing::turn` meets its contract.
-- Assumes nothing.
use Rattle.mainloop.proofs.crashing.Turning.{turn_ready, turn_lowered, turn_node, turn_arc, turn_count, turn_next, turn_labelled, turn_pushable, turn_pushed}
use borrow.Author.Rules.{rules}
use Rattle.mainloop.proofs.crashing.turn.Goals as goal

pub scan-requires : goal.scan-requires
scan-requires c = record { ready_in = search (turn_ready); most_nonzero = search rules }

pub returns-in-Slack : goal.returns-in-Slack
returns-in-Slack c = search (turn_lowered)

pub mark-requires : goal.mark-requires
mark-requires c = record { node_bound = search (turn_node); arc_bound = search (turn_arc); count_bound = search (turn_count) }

pub overflow_add-result : goal.overflow_add-result
overflow_add-result c = search (turn_next)

pub returns-then-label-ne128 : goal.returns-then-label-ne128
returns-then-label-ne128 c = search (turn_labelled)

pub push-requires : goal.push-requires
push-requires c = search (turn_pushable)

pub returns : goal.returns
returns c = search (turn_pushed)
