-- The work sheet read back: times of nodes are the starts and ends of a budget, and loads of arcs are a flow.
-- The subtle point: the sheet has room for 448 arcs, and what stands past the last one is anybody's; the flow is 0 there.
-- Assumes nothing.
use Rattle.std.specs.Prelude.{◌≡◌, ℕ, ◌+◌, ◌<◌, ◌≤◌, List}
use Rattle.theory.specs.Sum.{cells}
use Rattle.theory.specs.Budget.{Budget}
use Rattle.curve.specs.declared.Ticks.{Ticks}
use Rattle.curve.specs.Rows.{ticks_row}
use Rattle.board.specs.declared.Board.{Board}
use Rattle.board.specs.Board.{WellFormed, view, usable}
use Rattle.nets.specs.Wired.{times_of}

-- the times of the first n nodes from node `first` on
unfoldable pub nodes_from : List ℕ → ℕ → ℕ → List Ticks
nodes_from t first n = ticks_row n (λ p. cells t (first + p))

-- the times of nodes are a budget of the board
pub record Budgeted (b : Board) (t : List ℕ) : Type 0 where
  pub formed : WellFormed b
  pub budget : Budget (view b) (usable b) (times_of (view b) (cells t))

-- the loads of the first arcs, and none past them
pub record FlowIn (x : List ℕ) (arcs : ℕ) (flow : List ℕ) : Type 0 where
  pub loads : (a : ℕ) → a < arcs → cells flow a ≡ cells x a
  pub past : (a : ℕ) → arcs ≤ a → cells flow a ≡ 0
