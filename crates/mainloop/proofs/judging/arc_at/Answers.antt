-- `judging::arc_at` meets its contract.
-- Assumes nothing.
use Rattle.nets.specs.Sheet.{arc_within}
use borrow.Author.Rules.{rules}
use Rattle.mainloop.proofs.judging.arc_at.Goals as goal

pub returns : goal.returns
unfolding arc_within
returns c = search rules
