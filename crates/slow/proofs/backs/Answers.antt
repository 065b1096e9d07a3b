-- `slow::backs` meets its contract. The loop: the steps back by the links gone by.
-- Assumes nothing.
use mathlib.Core.Path.{◌∙◌}
use Rattle.slow.proofs.Ways.{backs_none, backs_more, backs_kept, backs_done}
use Rattle.slow.proofs.backs.Goals as goal
use Rattle.slow.proofs.backs.Goals.{then-reach, else-reach}

pub loop-l-init : goal.loop-l-init
loop-l-init c = λ _. backs_none _ _ _

pub loop-l-preserved : goal.loop-l-preserved
loop-l-preserved c =
    elim c.if-reach.branch [ then-reach w ↦ λ ok. w.back-is ∙ search (backs_more) | else-reach w ↦ λ ok. w.back-is ∙ search (backs_kept) ]

pub returns : goal.returns
returns c = search (backs_done)
