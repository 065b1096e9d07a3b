-- `edits::place_of` meets its contract.
-- Assumes nothing.
use Rattle.edits.proofs.Ways.{too_many, none_before, one_more, place_fits, all_counted}
use Rattle.edits.proofs.place_of.Goals as goal

pub returns-then-n-gt256 : goal.returns-then-n-gt256
returns-then-n-gt256 c = search (too_many)

pub loop-l-init : goal.loop-l-init
loop-l-init c = none_before _ _

pub overflow_add-place : goal.overflow_add-place
overflow_add-place c = search (place_fits)

pub loop-l-preserved : goal.loop-l-preserved
loop-l-preserved c = search (one_more)

pub returns : goal.returns
returns c = search (all_counted)
