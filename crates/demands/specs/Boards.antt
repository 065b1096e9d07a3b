-- A board that neither 9 nor 10 refuses.
-- Assumes nothing.
use Rattle.theory.specs.Graph.{Times}
use Rattle.theory.specs.Budget.{Budget}
use Rattle.board.specs.declared.Board.{Board}
use Rattle.board.specs.Board.{usable, view, WellFormed}
use Rattle.board.specs.Leads.{LoopFree}

-- it has no loop, and some budget of it is allowed
pub record Plannable (b : Board) : Type 0 where
  pub formed : WellFormed b
  pub free : LoopFree b
  pub times : Times
  pub budget : Budget (view b) (usable b) times
