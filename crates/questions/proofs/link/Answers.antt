use Rattle.questions.proofs.Answering.{link_none, link_past, link_wide, link_there}
use Rattle.questions.proofs.link.Goals as goal

pub returns-in_default : goal.returns-in_default
returns-in_default c = search (link_none)

pub returns-then-b-index : goal.returns-then-b-index
returns-then-b-index c = search (link_past)

pub returns-then-index-ge256 : goal.returns-then-index-ge256
returns-then-index-ge256 c = search (link_wide)

pub returns : goal.returns
returns c = search (link_there)
