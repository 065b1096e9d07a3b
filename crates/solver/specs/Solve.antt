-- What the solver gives: refusal 9 or 10, or the budget that is held and a flow that shows why no budget is cheaper.
-- The idea (documents 000 and 003): loads that conserve, and times that are slack with them, prove the times cheapest; the first times that are slack
-- with them are the budget held. The subtle point: there may be many such flows, and no statement says which one is given.
-- Assumes nothing.
use Rattle.std.specs.Prelude.{ℕ, ◌<◌, ◌≤◌, [], Result, Ok, Err}
use Rattle.theory.specs.Graph.{Ranked}
use Rattle.theory.specs.Budget.{Timed}
use Rattle.board.specs.declared.Board.{Board}
use Rattle.board.specs.Board.{WellFormed, view, usable}
use Rattle.budget.specs.Budget.{Holds}
pub use Rattle.budget.specs.Made.{no_budget}
use Rattle.budget.specs.Reason.{Reason}
use Rattle.solver.specs.declared.Solved.{Solved}
use Rattle.solver.specs.declared.Unsolved.{Unsolved}
use Rattle.solver.specs.Verdict.{Verdict}
use Rattle.solver.specs.Judging.{Turned}

-- ---- what is promised
-- a board that is refused for nothing: the budget that is held, and its reason
pub record Sound (b : Board) (s : Solved) : Type 0 where
  pub verdict : Verdict b (Ok tt) []
  pub holds : Holds b s.budget
  pub reason : Reason b s.budget s.flow

-- what a well-formed board comes to: the verdict on it, with the budget where it is refused for nothing and else the path that is shown
abbrev pub Solves : Board → Result Solved Unsolved → Type 0
Solves b (Ok s) = Sound b s
Solves b (Err u) = Turned b u

-- ---- its steps
-- a board without a loop whose fastest delays do not exceed the deadline
pub record Solvable (b : Board) : Type 0 where
  pub formed : WellFormed b
  pub ranked : Ranked (view b) 65
  pub start : ℕ → ℕ
  pub end : ℕ → ℕ
  pub fastest : Timed (view b) (view b).fastest start end
  pub in_time : (p : ℕ) → p < b.parts → end p ≤ usable b
