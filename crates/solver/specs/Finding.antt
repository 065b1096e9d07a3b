-- Loads and their first times: those that are advised where the verdict takes them, and else those of the main loop.
-- The idea: nothing is said of the advice. What is proved is where the main loop begins, at all parts at their slowest and with no load, where every arc
-- fits, since no tick past the slowest saves anything; and that what is found proves itself.
-- Assumes nothing.
use Rattle.std.specs.Prelude.{◌≡◌, ℕ, ◌+◌, ◌<◌, ◌≤◌, List, length}
use Rattle.theory.specs.Sum.{cells}
use Rattle.curve.specs.declared.Ticks.{Ticks}
use Rattle.curve.specs.Rows.{ticks_at}
use Rattle.board.specs.declared.Board.{Board}
use Rattle.board.specs.Board.{view, usable}
use Rattle.times.specs.declared.Schedule.{Schedule}
use Rattle.times.specs.Times.{slowests_of, TimesOf}
use Rattle.nets.specs.declared.Net.{Net}
use Rattle.nets.specs.declared.Work.{Work}
use Rattle.deciding.specs.Finding.{ProvesIn}
use Rattle.solver.specs.Wiring.{NetworkIn}
use Rattle.solver.specs.Solve.{Solvable}

-- ---- times to begin at
-- the first k parts' times stand at their nodes, and 0 at the source
pub record Placed (start end : List Ticks) (k : ℕ) (t : List ℕ) : Type 0 where
  pub starts : (p : ℕ) → p < k → cells t p ≡ ticks_at start p
  pub ends : (p : ℕ) → p < k → cells t (64 + p) ≡ ticks_at end p
  pub source : cells t 128 ≡ 0
  pub room : length t ≡ 130

-- `most` is no less than `due` and the first k ends, and no more than it must be
pub record Topped (end : List Ticks) (due k most : ℕ) : Type 0 where
  pub late : (p : ℕ) → p < k → ticks_at end p ≤ most
  pub due_late : due ≤ most
  pub early : (m : ℕ) → due ≤ m → ((p : ℕ) → p < 64 → ticks_at end p ≤ m) → most ≤ m

-- all of them, with the sink at the greatest end, or at `due` if that is later
pub record Begun (start end : List Ticks) (due : ℕ) (t : List ℕ) : Type 0 where
  pub placed : Placed start end 64 t
  pub topped : Topped end due 64 (cells t 129)

-- those of all parts at their slowest
pub record Slowest (b : Board) (due : ℕ) (t : List ℕ) : Type 0 where
  pub schedule : Schedule
  pub timed : TimesOf (view b) (slowests_of b) schedule
  pub begun : Begun schedule.start schedule.end due t

-- ---- what is asked and what is found
-- a sheet that holds the network of a board that can be solved
pub record Prepared (b : Board) (net : Net) (due : ℕ) : Type 0 where
  pub can : Solvable b
  pub network : NetworkIn b net
  pub due_is : due ≡ usable b

-- the sheet holds the network still, and loads and times of the work prove each other
pub record Found (b : Board) (due : ℕ) (net : Net) (w : Work) : Type 0 where
  pub prepared : Prepared b net due
  pub proves : ProvesIn net due w

-- the work sheet has the answer of a board
pub record Answers (b : Board) (w : Work) : Type 0 where
  pub net : Net
  pub found : Found b (usable b) net w
