-- `board::links_good` meets its contract. The loop: the places gone by passed the test, and `before` is the last of them.
-- Assumes nothing.
use mathlib.Core.Path.{refl}
use Rattle.curve.proofs.GoodLaws.{every_none}
use Rattle.board.proofs.Steps.{one_link, link_fails, link_before, all_links}
use Rattle.board.proofs.links_good.Goals as goal

pub loop-l-init : goal.loop-l-init
loop-l-init c = (every_none _, refl)

pub returns-then-not-link_good : goal.returns-then-not-link_good
returns-then-not-link_good c = search (link_fails)

pub loop-l-preserved : goal.loop-l-preserved
loop-l-preserved c = (search (one_link), search (link_before))

pub returns : goal.returns
returns c = search (all_links)
