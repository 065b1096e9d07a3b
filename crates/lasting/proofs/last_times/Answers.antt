-- `last_times` meets its contract.
-- Assumes nothing.
use Rattle.lasting.proofs.Turns.{turned_fair, last_answers}
use Rattle.lasting.proofs.last_times.Goals as goal

pub answer-requires : goal.answer-requires
answer-requires c = search (turned_fair)

pub returns : goal.returns
returns c = search (last_answers)
