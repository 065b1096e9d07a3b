-- Why a budget is cheapest (documents 000 and 003): a flow, loads of parts, links, entries and exits in that order, that conserves and leaves no slack.
-- The subtle point: a budget may have many such flows. What stands past the last exit is no load, and 0.
-- Assumes nothing.
use Rattle.std.specs.Prelude.{◌≡◌, List, ℕ, ◌+◌, ◌≤◌, ◌<◌}
use Rattle.theory.specs.Sum.{cells}
use Rattle.theory.specs.Graph.{Conserves, Slack}
use Rattle.nets.specs.Wired.{flow_of}
use Rattle.board.specs.declared.Board.{Board}
use Rattle.board.specs.Board.{view, usable}
use Rattle.budget.specs.declared.Budget.{Budget}
use Rattle.budget.specs.Made.{times_in}

-- how many loads a flow has: of parts, links, entries and exits
abbrev pub loads_of : Board → ℕ
loads_of b = b.parts + (b.links + (b.parts + b.parts))

pub record Reason (b : Board) (r : Budget) (flow : List ℕ) : Type 0 where
  pub conserves : Conserves (view b) (flow_of (view b) (cells flow))
  pub slack : Slack (view b) (usable b) (times_in b r) (flow_of (view b) (cells flow))
  pub small : (a : ℕ) → a < loads_of b → cells flow a ≤ 64000
  pub past : (a : ℕ) → loads_of b ≤ a → cells flow a ≡ 0
