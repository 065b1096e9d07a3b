-- `times::in_rounds` meets its contract. The loop: the ends after as many rounds.
-- Assumes nothing.
use Rattle.base.proofs.TableLaws.{all_table}
use Rattle.times.proofs.Rounds.{round_none, round_more, rounds_still, round_still}
use Rattle.times.proofs.in_rounds.Goals as goal

pub loop-k-init : goal.loop-k-init
loop-k-init c = search (round_none, all_table)

pub returns-then-eq : goal.returns-then-eq
returns-then-eq c = search (round_still)

pub loop-k-preserved : goal.loop-k-preserved
loop-k-preserved c = search (round_more)

pub returns : goal.returns
returns c = search (rounds_still)
