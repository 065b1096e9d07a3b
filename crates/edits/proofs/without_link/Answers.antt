-- `edits::without_link` meets its contract.
-- Assumes nothing.
use Rattle.edits.proofs.Ways.{link_missing, link_removed, some_links}
use Rattle.edits.proofs.Moved.{place_out}
use Rattle.edits.proofs.without_link.Goals as goal

pub returns-then-not-has_link : goal.returns-then-not-has_link
returns-then-not-has_link c = search (link_missing)

pub overflow_sub-next : goal.overflow_sub-next
overflow_sub-next c = search (some_links)

pub removed-new-requires : goal.removed-new-requires
removed-new-requires c = search (place_out)

pub returns : goal.returns
returns c = search (link_removed)
