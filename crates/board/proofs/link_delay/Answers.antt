-- `board::link_delay` meets its contract.
-- Assumes nothing.
use mathlib.Core.Path.{refl}
use Rattle.board.specs.Board.{delay_of}
use Rattle.board.proofs.link_delay.Goals as goal

pub returns : goal.returns
unfolding delay_of
returns c = refl
