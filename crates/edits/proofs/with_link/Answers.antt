-- `edits::with_link` meets its contract.
-- Assumes nothing.
use Rattle.edits.proofs.Ways.{link_there, link_added, no_room}
use Rattle.edits.proofs.Moved.{place_in}
use Rattle.edits.proofs.with_link.Goals as goal

pub returns-then-links-ge256 : goal.returns-then-links-ge256
returns-then-links-ge256 c = search (no_room)

pub returns-then-has_link : goal.returns-then-has_link
returns-then-has_link c = search (link_there)

pub inserted-new-requires : goal.inserted-new-requires
inserted-new-requires c = search (place_in)

pub returns : goal.returns
returns c = search (link_added)
