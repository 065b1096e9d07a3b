-- Judging a board as a whole: a loop first, then a path too slow at its fastest, else neither. Times are looked at only where there is no loop, since else
-- there are none.
-- Assumes nothing.
use Rattle.std.specs.Prelude.{◌≡◌, ℕ, List, [], Result, Ok, Err}
use Rattle.refusal.specs.declared.Refusal.{Refusal}
use Rattle.board.specs.declared.Board.{Board}
use Rattle.board.specs.Board.{WellFormed}
use Rattle.board.specs.Leads.{LoopFree}
use Rattle.slow.specs.Walk.{trail_of}
use Rattle.solver.specs.declared.Unsolved.{Unsolved}
use Rattle.solver.specs.Verdict.{Verdict}

-- a board whose time is judged
pub record Timely (b : Board) : Type 0 where
  pub formed : WellFormed b
  pub free : LoopFree b

-- "The path is empty except at 10."
abbrev pub unshown : Refusal → Unsolved
unshown refusal = record { refusal = refusal; path = trail_of [] }

-- the board's verdict is a refusal, with its path
pub record Turned (b : Board) (u : Unsolved) : Type 0 where
  pub path : List ℕ
  pub verdict : Verdict b (Err u.refusal) path
  pub listed : u.path ≡ trail_of path

-- the board's verdict
abbrev pub JudgedOf : Board → Result Unit Unsolved → Type 0
JudgedOf b (Ok done) = Verdict b (Ok tt) []
JudgedOf b (Err u) = Turned b u
