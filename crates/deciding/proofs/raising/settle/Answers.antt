-- `raising::settle` meets its contract.
-- Assumes nothing.
use borrow.Author.Rules.{rules}
use Rattle.deciding.proofs.raising.Raising.{settle_early, settle_quiet, settle_node, settle_source, settle_late, settle_raised}
use Rattle.deciding.proofs.raising.settle.Goals as goal

pub ask-requires-clause-early : goal.ask-requires-clause-early
ask-requires-clause-early c = search (settle_early)

pub returns-in_default : goal.returns-in_default
returns-in_default c = search (settle_quiet)

pub returns-then-r-eq128 : goal.returns-then-r-eq128
returns-then-r-eq128 c = search (settle_source)

pub returns-then-due-r : goal.returns-then-due-r
returns-then-due-r c = search (settle_late)

pub offset_bounds-time-r : goal.offset_bounds-time-r
offset_bounds-time-r c = search (settle_node, rules)

pub bounds-time-r : goal.bounds-time-r
bounds-time-r c = search (settle_node)

pub returns : goal.returns
returns c = search (settle_raised)
