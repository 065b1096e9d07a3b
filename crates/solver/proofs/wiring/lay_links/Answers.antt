-- `wiring::lay_links` meets its contract.
-- Assumes nothing.
use Rattle.solver.proofs.wiring.Laying.{laid_none, laid_done, links_more, link_in, from_fits, from_in, to_in}
use Rattle.solver.proofs.wiring.lay_links.Goals as goal

pub loop-l-init : goal.loop-l-init
loop-l-init c = laid_none _ _ _

pub overflow_add-link : goal.overflow_add-link
overflow_add-link c = search (from_fits)

pub put-requires : goal.put-requires
put-requires c = record { a_bound = search (link_in); from_bound = search (from_in); to_bound = search (to_in) }

pub loop-l-preserved : goal.loop-l-preserved
loop-l-preserved c = search (links_more)

pub returns : goal.returns
returns c = search (laid_done)
