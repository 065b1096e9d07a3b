-- `board::link_held` meets its contract.
-- Assumes nothing.
use Rattle.board.proofs.Steps.{in_order}
use Rattle.board.specs.Tests.{link_held}
use Rattle.base.specs.Pick.{pick}
use Rattle.base.proofs.Tests.{tests}
use Rattle.board.proofs.link_held.Goals as goal

pub returns-then-parts-x : goal.returns-then-parts-x
unfolding link_held pick
returns-then-parts-x c = search tests

pub returns-then-parts-x-2 : goal.returns-then-parts-x-2
unfolding link_held pick
returns-then-parts-x-2 c = search tests

pub returns-then-x : goal.returns-then-x
unfolding link_held pick
returns-then-x c = search tests

pub returns-then-x-gt0 : goal.returns-then-x-gt0
unfolding link_held pick
returns-then-x-gt0 c = search tests

pub returns-then-l-eq0 : goal.returns-then-l-eq0
unfolding link_held pick
returns-then-l-eq0 c = search tests

pub returns : goal.returns
returns c = search (in_order)
