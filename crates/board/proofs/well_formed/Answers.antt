-- `board::well_formed` meets its contract.
-- Assumes nothing.
use Rattle.board.proofs.Steps.{length_mapped}
use Rattle.board.proofs.TestLaws.{deadline_low, deadline_high, parts_none, parts_many, links_many, curves_bad, links_decide}
use borrow.Author.Rules.{rules}
use Rattle.board.proofs.well_formed.Goals as goal

pub returns-then-b-lt1 : goal.returns-then-b-lt1
returns-then-b-lt1 c = search (deadline_low, deadline_high, parts_none, parts_many, links_many, curves_bad)

pub returns-then-b-gt4095 : goal.returns-then-b-gt4095
returns-then-b-gt4095 c = search (deadline_low, deadline_high, parts_none, parts_many, links_many, curves_bad)

pub returns-then-b-lt1-2 : goal.returns-then-b-lt1-2
returns-then-b-lt1-2 c = search (deadline_low, deadline_high, parts_none, parts_many, links_many, curves_bad)

pub returns-then-b-gt64 : goal.returns-then-b-gt64
returns-then-b-gt64 c = search (deadline_low, deadline_high, parts_none, parts_many, links_many, curves_bad)

pub returns-then-b-gt256 : goal.returns-then-b-gt256
returns-then-b-gt256 c = search (deadline_low, deadline_high, parts_none, parts_many, links_many, curves_bad)

pub returns-then-not-curves_good : goal.returns-then-not-curves_good
returns-then-not-curves_good c = search (deadline_low, deadline_high, parts_none, parts_many, links_many, curves_bad)

pub returns : goal.returns
returns c = links_decide _ _ _ (search (length_mapped)) (search (length_mapped)) (search rules) (search rules) (search rules) (search rules) (search rules) c.curves_good.ensures (search rules) c.links_good.ensures
